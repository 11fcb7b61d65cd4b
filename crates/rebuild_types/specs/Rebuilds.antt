-- What a call that builds something anew says of its answer.
use Rattle.std.specs.Prelude.{ℕ, ◌*◌, ◌<◌, ◌⊎◌, Result}
use Rattle.store.specs.State.{Contents, State}
use Rattle.store.specs.Builds.{Made}
use Rattle.lent.specs.Answers.{Answers}
use Rattle.lent.specs.declared.NoRoom.{NoRoom}

-- With `room` words of stack: a number of which P holds, for at most `cost` nodes. Or it is refused, and then there were fewer than
-- four words for each of `need` nodes, or fewer nodes than `cost`.
abbrev pub Rebuilds : (room need cost : ℕ) → State → State → (Contents → ℕ → Type 0) → Result ℕ NoRoom → Type 0
Rebuilds room need cost s t P r = Answers ((room < 4 * need) ⊎ (s.left < cost)) (Made cost s t P) r
