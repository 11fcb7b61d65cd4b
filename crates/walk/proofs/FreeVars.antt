-- Looking for free variables is going through a term.
use Rattle.std.proofs.Common.{◌≡◌, Bool, true, false, ◌&&◌, ◌||◌, List, [], ◌∷◌, refl}
use Rattle.hol.specs.Base.{Word}
use Rattle.hol.specs.Syntax.{Ty, Tm, closed, free_in}
use Rattle.walk.proofs.Pending.{run}
use Rattle.walk.proofs.Passing.{Passes}

-- closed so far, and then
abbrev pub closing : Tm → Bool → Bool
closing t s = s && closed t

-- found so far, or then
abbrev pub seeking : Word → Ty → Tm → Bool → Bool
seeking y b t s = s || free_in y b t

and_true : (s : Bool) → (s && true) ≡ s
and_true true = refl
and_true false = refl

and_assoc : (r s t : Bool) → (r && (s && t)) ≡ ((r && s) && t)
and_assoc true s t = refl
and_assoc false s t = refl

or_false : (s : Bool) → (s || false) ≡ s
or_false true = refl
or_false false = refl

or_assoc : (r s t : Bool) → (r || (s || t)) ≡ ((r || s) || t)
or_assoc true s t = refl
or_assoc false s t = refl

pub closing_passes : Passes closing
closing_passes = record {
  bound = λ k s. and_true s;
  constant = λ c bs s. and_true s;
  apply = λ f x s. and_assoc s _ _;
  lambda = λ a t s. refl;
}

pub seeking_passes : (y : Word) (b : Ty) → Passes (seeking y b)
seeking_passes y b = record {
  bound = λ k s. or_false s;
  constant = λ c bs s. or_false s;
  apply = λ f x s. or_assoc s _ _;
  lambda = λ a t s. refl;
}

-- once decided it stays so
pub run_open : (ts : List Tm) → run closing ts false ≡ false
run_open [] = refl
run_open (t ∷ ts) = run_open ts

pub run-found : (y : Word) (b : Ty) (ts : List Tm) → run (seeking y b) ts true ≡ true
run-found y b [] = refl
run-found y b (t ∷ ts) = run-found y b ts
