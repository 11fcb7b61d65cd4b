-- Shapes: a name is tested, then a list of types for its length.
use Rattle.std.proofs.Common.{◌≡◌, Bool, true, false, Some, Option, sym, refl}
use mathlib.Core.Option.{Option as Found, some, none}
use Rattle.hol.specs.Base.{Word, guard, same_word}
use Rattle.hol.specs.Syntax.{tyapp, Tys, tnil, tcons, const, w_eq, w_fun, arrow}
use Rattle.hol.specs.Kernel.{eq_of}
use Rattle.walk.specs.Parts.{Like, only, two}

guard_none : {A : Type 0} (b : Bool) → guard {A = A} b none ≡ none
guard_none true = refl
guard_none false = refl

pub eq_of-const : (w : Word) (bs : Tys) → eq_of (const w bs) ≡ guard (same_word w w_eq) (only bs)
eq_of-const w tnil = sym (guard_none _)
eq_of-const w (tcons a tnil) = refl
eq_of-const w (tcons a (tcons b bs)) = sym (guard_none _)

pub arrow_named : (w : Word) (bs : Tys) → arrow (tyapp w bs) ≡ guard (same_word w w_fun) (two bs)
arrow_named w tnil = sym (guard_none _)
arrow_named w (tcons a tnil) = sym (guard_none _)
arrow_named w (tcons a (tcons b tnil)) = refl
arrow_named w (tcons a (tcons b (tcons d ds))) = sym (guard_none _)

-- the test came out true, or false
pub like_taken : {A B : Type 0} (R : A → B → Type 0) (o p : Found A) (b : Bool) (r : Option B) → o ≡ guard b p → true ≡ b
    → Like R p r → Like R o r
like_taken R o p b r e t l = rw (e, ← t) l

-- what the code found is what the definition has
pub like_some : {A B : Type 0} (R : A → B → Type 0) (o : Found A) (y : B) → Like R o (Some y) → (x : A) × R x y
like_some R none y l = absurd l
like_some R (some x) y l = (x, l)
