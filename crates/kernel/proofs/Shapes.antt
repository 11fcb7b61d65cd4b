-- What a recognised shape says: the definition's answer is there, or none is.
use Rattle.std.proofs.Common.{◌≡◌, Some, None, refl}
use mathlib.Core.Option.{Option as Maybe, some, none}
use Rattle.walk.specs.Parts.{Like}

pub record There {A B : Type 0} (R : A → B → Type 0) (o : Maybe A) (y : B) : Type 0 where
  pub what : A
  pub is : o ≡ some what
  pub stands : R what y

pub there : {A B : Type 0} {y : B} (R : A → B → Type 0) (o : Maybe A) → Like R o (Some y) → There R o y
there R none l = absurd l
there R (some x) l = record { what = x; is = refl; stands = l }

pub absent : {A B : Type 0} (R : A → B → Type 0) (o : Maybe A) → Like {B = B} R o None → o ≡ none
absent R none l = refl
absent R (some x) l = absurd l
