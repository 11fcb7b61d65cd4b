-- Why a rule finds nothing, and what an answer says: a refusal tells want of room from there being nothing.
use Rattle.std.specs.Prelude.{◌≡◌, ℕ, ◌*◌, ◌<◌, Bool, true, false, ◌⊎◌, Ok, Err, Result}
use Rattle.std.proofs.Math.Option.{Option as Maybe, some, none}
use Rattle.workspace.specs.declared.refusal.Refusal.{Refusal}
use Rattle.workspace.specs.declared.refusal.Refusal.TheVariants.{Unfit, NoRoom}

-- What is short where a call is refused: fewer than fifteen words for each of `need` nodes that are gone through, or fewer nodes are
-- left than `cost`.
abbrev pub Lacks : (words need left cost : ℕ) → Type 0
Lacks words need left cost = (words < 15 * need) ⊎ (left < cost)

-- a call that answers what the definitions have as o: P says what the answer has to do with it; where there is nothing, kept says what
-- became of the store
pub data Serves {A X : Type 0} (lacks kept : Type 0) (P : A → X → Type 0) (o : Maybe A) : Result X Refusal → Type 0 where
  served : {x : X} (a : A) → o ≡ some a → P a x → Serves lacks kept P o (Ok x)
  nothing : kept → o ≡ none → Serves lacks kept P o (Err Unfit)
  unserved : lacks → Serves lacks kept P o (Err NoRoom)

-- a test that answers b: passed, or not
pub data Tests (lacks : Type 0) (b : Bool) : Result Unit Refusal → Type 0 where
  passed : {x : Unit} → b ≡ true → Tests lacks b (Ok x)
  failed : b ≡ false → Tests lacks b (Err Unfit)
  untested : lacks → Tests lacks b (Err NoRoom)
