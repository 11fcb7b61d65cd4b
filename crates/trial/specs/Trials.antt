-- What the trial builds, and what it says.
use Rattle.std.specs.Prelude.{◌≡◌, ℕ, ◌<◌, Bool, true, Some, None, codes, Option}
use Rattle.std.proofs.Math.Option.{some}
use Rattle.hol.specs.Syntax.{Tm, fvar, app, tyvar}
use Rattle.store.specs.State.{State, Grows}

-- x x, for the free variable x of type 'a
abbrev pub self_applied : Tm
self_applied = app (fvar (codes "x") (tyvar (codes "'a"))) (fvar (codes "x") (tyvar (codes "'a")))

-- six nodes are enough for it
pub record Applied (s t : State) (n : ℕ) : Type 0 where
  pub grows : Grows 6 s t
  pub stands : t.contents.term n ≡ some self_applied

pub record Short (n : ℕ) (s t : State) : Type 0 where
  pub grows : Grows n s t
  pub short : s.left < n

abbrev pub AppliedSays : State → State → Option ℕ → Type 0
AppliedSays s t None = Short 6 s t
AppliedSays s t (Some n) = Applied s t n

-- and twelve for two; they are found the same
abbrev pub TwiceSays : State → State → Option Bool → Type 0
TwiceSays s t None = Short 12 s t
TwiceSays s t (Some b) = Grows 12 s t × (b ≡ true)

abbrev pub TrialSays : ℕ → Option Bool → Type 0
TrialSays left None = left < 12
TrialSays left (Some b) = b ≡ true
