-- Which sequent a sequent by numbers is, and what a rule says of its answer.
use Rattle.std.specs.Prelude.{◌≡◌, ℕ, ◌+◌, ◌*◌, List, Result}
use Rattle.std.proofs.Math.Option.{Option as Maybe, some}
use Rattle.hol.specs.Base.{option}
use Rattle.hol.specs.Syntax.{Seq}
use Rattle.hol.specs.Theory.{Theory}
use Rattle.hol.specs.Rules.{Derives}
use Rattle.hol.specs.Says.{Wf, AllDerived}
use Rattle.store.specs.Measures.{nodes_tm, nodes_tms}
use Rattle.store.specs.State.{Contents, State, Grows}
use Rattle.workspace.specs.Refusals.{Lacks, Serves}
use Rattle.workspace.specs.declared.refusal.Refusal.{Refusal}
use Rattle.kernel.specs.declared.sequent.Sequent.{Sequent}

-- the sequent p is what q stands for
pub record IsSeq (c : Contents) (p : Seq) (q : Sequent) : Type 0 where
  pub hyps : c.terms q.hyps ≡ some p.hyps
  pub concl : c.term q.concl ≡ some p.concl

-- the nodes of a sequent, with the cells of its list
abbrev pub nodes_seq : Seq → ℕ
nodes_seq p = nodes_tm p.concl + nodes_tms p.hyps

-- What is found stands for p. It cost no more than what was built beside it and twice its nodes. In a well-formed theory it can be
-- derived if the premises ps can be.
pub record Found (th : Theory) (ps : List Seq) (built : ℕ) (s t : State) (p : Seq) (q : Sequent) : Type 0 where
  pub stands : IsSeq t.contents p q
  pub grows : Grows (built + 2 * nodes_seq p) s t
  pub derived : Wf th → AllDerived th ps → Derives th p.hyps p.concl

-- what a rule may cost that finds this
abbrev pub price : Maybe Seq → ℕ
price o = option o 0 (λ p. 2 * nodes_seq p)

-- A rule with the premises ps in the theory th, with so many words lent, of which the definition gives o: it finds what o is; or it
-- does not fit, and o is none, and then nothing kept is lost and no more spent than what was built beside; or it is refused for want of
-- room, and then there were too few words for `need` nodes, or fewer nodes left than what is built beside and the price.
abbrev pub Gives : Theory → List Seq → (words need built : ℕ) → State → State → Maybe Seq → Result Sequent Refusal → Type 0
Gives th ps words need built s t o r = Serves (Lacks words need s.left (built + price o)) (Grows built s t) (Found th ps built s t) o r
