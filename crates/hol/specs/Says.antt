-- The theorems, as types, and what the call promises.
use Rattle.std.specs.Prelude.{◌≡◌, ℕ, ◌+◌, ◌*◌, ◌<◌, Bool, true, not, ◌&&◌, List, [], ◌∷◌, length, Ok, Err, Result}
use Rattle.std.proofs.Math.Option.{some}
use Rattle.hol.specs.declared.Fault.{Fault}
use Rattle.hol.specs.declared.Fault.TheVariants.{Broken, Refused, NoRoom}
use Rattle.hol.specs.Base.{Word, all}
use Rattle.hol.specs.Syntax.{Tm, bvar, lam, bool, fun, equal, Seq}
use Rattle.hol.specs.Theory.{Decl, d_type, d_const, d_def, d_axiom, d_thm, Theory, Declared, type_of, has_type, admissible}
use Rattle.hol.specs.Kernel.{in_hyps, Step, step}
use Rattle.hol.specs.Rules.{Derives}
use Rattle.hol.specs.Models.{Model, Valid, Satisfies}
use Rattle.hol.specs.Text.{broken, refused, accepted, judge}
use Rattle.hol.specs.Weight.{weight}

-- each of these sequents can be derived
pub data AllDerived (th : Theory) : List Seq → Type 0 where
  none_yet : AllDerived th []
  and_this : {p : Seq} {ps : List Seq} → Derives th p.hyps p.concl → AllDerived th ps → AllDerived th (p ∷ ps)

-- a theorem can be derived from what stands before it
abbrev pub Justified : Theory → Decl → Type 0
Justified th (d_type c) = Unit {0}
Justified th (d_const c a) = Unit {0}
Justified th (d_def c a t) = Unit {0}
Justified th (d_axiom w t) = Unit {0}
Justified th (d_thm w s) = Derives th s.hyps s.concl

-- a well-formed theory: each declaration was admissible behind what stands before it, and each theorem can be derived there
pub data Wf : Theory → Type 0 where
  wf_nil : Wf []
  wf_cons : {d : Decl} {th : Theory} → admissible th d ≡ true → Justified th d → Wf th → Wf (d ∷ th)

-- what a step finds can be derived, where what was found before can be
abbrev pub StepSound : Type 0
StepSound = (th : Theory) (ps : List Seq) (s : Step) (p : Seq) → Wf th → AllDerived th ps → step th ps s ≡ some p → Derives th p.hyps p.concl

-- what is accepted is a theory in which every theorem can be derived from what stands before it
abbrev pub AcceptedGood : Type 0
AcceptedGood = (t : List ℕ) (n : ℕ) (th : Theory) → judge t ≡ accepted n th → Wf th

-- what can be derived has type bool, and so has what it assumes
abbrev pub Typed : Type 0
Typed = (th : Theory) (hs : List Tm) (t : Tm) → Wf th → Derives th hs t → (type_of th t ≡ some bool) × (all (λ h. has_type th h bool) hs ≡ true)

-- what can be derived is valid in every finite model that satisfies the axioms
abbrev pub Sound : Type 0
Sound = (th : Theory) (m : Model) (hs : List Tm) (t : Tm) → Wf th → Satisfies th m → Derives th hs t → Valid th m hs t

-- truth: the identity on bool is itself; falsehood: it is constantly true
abbrev pub truth : Tm
truth = equal (fun bool bool) (lam bool (bvar 0)) (lam bool (bvar 0))

abbrev pub falsehood : Tm
falsehood = equal (fun bool bool) (lam bool (bvar 0)) (lam bool truth)

-- nothing is assumed
abbrev pub NoAxioms : Theory → Type 0
NoAxioms th = (w : Word) (t : Tm) → Declared th (d_axiom w t) → ⊥

-- where nothing is assumed, falsehood cannot be derived
abbrev pub Consistent : Type 0
Consistent = (th : Theory) → Wf th → NoAxioms th → Derives th [] falsehood → ⊥

-- each assumption stands once
abbrev pub once : List Tm → Bool
once [] = true
once (h ∷ hs) = not (in_hyps h hs) && once hs

-- the sequents that a theory has under names, and those found so far, have each assumption once
abbrev pub DeclOnce : Decl → Type 0
DeclOnce (d_type c) = Unit {0}
DeclOnce (d_const c a) = Unit {0}
DeclOnce (d_def c a t) = Unit {0}
DeclOnce (d_axiom w t) = Unit {0}
DeclOnce (d_thm w s) = once s.hyps ≡ true

-- a step's sequent has each assumption once, where those that it can use have
abbrev pub HypsOnce : Type 0
HypsOnce = (th : Theory) (ps : List Seq) (s : Step) (p : Seq) → ((d : Decl) → Declared th d → DeclOnce d) → all (λ q. once q.hyps) ps ≡ true → step th ps s ≡ some p → once p.hyps ≡ true

-- The call `check` on the text t with w words lent: Ok n exactly if the text is accepted, with its n commands; Broken and Refused as
-- the verdict says; NoRoom only if fewer words were lent than 65,536 and 64 for each byte and each unit of the text's weight.
abbrev pub CheckSays : List ℕ → ℕ → Result ℕ Fault → Type 0
CheckSays t w (Ok n) = (th : Theory) × (judge t ≡ accepted n th)
CheckSays t w (Err Broken) = judge t ≡ broken
CheckSays t w (Err (Refused i j)) = judge t ≡ refused i j
CheckSays t w (Err NoRoom) = w < 65536 + 64 * (length t + weight t)
