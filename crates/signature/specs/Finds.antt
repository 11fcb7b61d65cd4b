-- What a lookup answers, beside what the definitions say is there.
use Rattle.std.specs.Prelude.{◌≡◌, Some, None, Option}
use Rattle.std.proofs.Math.Option.{some, none}
use Rattle.std.proofs.Math.Option as maybe

-- a is there, and P says what the answer x has to do with it
pub record Found {A X : Type 0} (P : A → X → Type 0) (o : maybe.Option A) (x : X) : Type 0 where
  pub what : A
  pub is : o ≡ some what
  pub stands : P what x

-- where the definitions say o: an answer exactly where something is there, and then P of the two
abbrev pub Finds : {A X : Type 0} → (A → X → Type 0) → maybe.Option A → Option X → Type 0
Finds P o None = o ≡ none
Finds P o (Some x) = Found P o x
