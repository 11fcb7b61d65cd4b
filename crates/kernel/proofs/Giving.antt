-- Sequents that were found: what stands stays while the store grows, and what was short for a part is short for the whole.
use Rattle.std.proofs.Common.{◌≡◌, ℕ, ◌+◌, ◌*◌, ◌≤◌, max, Bool, true, ◌&&◌, Ok, Err, Result, arith}
use mathlib.Core.Option.{Option as Maybe, some}
use Rattle.hol.specs.Syntax.{Tm, Seq}
use Rattle.hol.specs.Kernel.{Sides, sides}
use Rattle.hol.proofs.Shapes.{sides_are}
use Rattle.store.specs.Measures.{nodes_tm}
use Rattle.store.specs.State.{Contents, State, Keeps, Grows}
use Rattle.store.specs.Builds.{Made}
use Rattle.store.proofs.Growth.{grows_on, grows-more}
use Rattle.walk.specs.Parts.{IsEquation}
use Rattle.walk.specs.declared.parts.Equation.{Equation}
use Rattle.lent.specs.Answers.{Answers}
use Rattle.lent.specs.declared.NoRoom.{NoRoom}
use Rattle.workspace.specs.declared.refusal.Refusal.{Refusal}
use Rattle.workspace.specs.Refusals.{Tests, passed, failed, untested}
use Rattle.kernel.specs.Sequents.{IsSeq, nodes_seq, price}
use Rattle.kernel.specs.declared.sequent.Sequent.{Sequent}

pub seq-kept : {c d : Contents} {p : Seq} {q : Sequent} → Keeps c d → IsSeq c p q → IsSeq d p q
seq-kept k h = record { hyps = k.terms _ _ h.hyps; concl = k.term _ _ h.concl }

-- what the parts of an equation stand for stays while the store grows
pub equation_kept : {c d : Contents} {p : Sides} {q : Equation} → Keeps c d → IsEquation c p q → IsEquation d p q
equation_kept k h = record { ty = k.typ _ _ h.ty; left = k.term _ _ h.left; right = k.term _ _ h.right }

-- what is at most the price of the sequent that the definition gives
pub priced : {o : Maybe Seq} {w : Seq} (b n : ℕ) → o ≡ some w → n ≤ b + 2 * nodes_seq w → n ≤ b + price o
priced b n e h = rw e h

-- the sides of an equation have at most as many nodes as it has
pub sides_nodes : (t : Tm) (l : Sides) → sides t ≡ some l → max (nodes_tm l.left) (nodes_tm l.right) ≤ nodes_tm t
sides_nodes t l e = rw (sides_are t e) (omega arith)

-- a number that was made after n nodes were spent
pub makes_on : {n k : ℕ} {s t : State} {short lacks : Type 0} (m : ℕ) (u : State) (P : Contents → ℕ → Type 0) (r : Result ℕ NoRoom) → Grows n s t
    → Answers short (Made m t u P) r → n + m ≤ k → (short → lacks) → Answers lacks (Made k s u P) r
makes_on m u P (Ok x) h b l f = record { grows = grows-more l (grows_on h b.grows); stands = b.stands }
makes_on m u P (Err e) h b l f = f b

-- a test after one that passed
pub tests_too : {short lacks : Type 0} {a b : Bool} {r : Result Unit Refusal} → a ≡ true → (short → lacks) → Tests short b r → Tests lacks (a && b) r
tests_too e l (passed p) = passed (rw (e, p))
tests_too e l (failed p) = failed (rw (e, p))
tests_too e l (untested x) = untested (l x)
