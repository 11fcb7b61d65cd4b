-- Answers that are refused for want of room.
use Rattle.std.proofs.Common.{◌≡◌, ℕ, Some, None, Ok, Err, Option, Result, arith}
use Rattle.std.specs.Option.{ok_or}
use Rattle.store.specs.State.{Contents, State}
use Rattle.store.specs.Builds.{Made, Full, Builds}
use Rattle.parser_types.specs.Reads.{Absent}
use Rattle.lent.specs.Answers.{Answers}
use Rattle.lent.specs.declared.NoRoom.{NoRoom}

-- where there was nothing to be read, the call is not refused, and finds nothing
pub refused_absent : {s t : State} {y : NoRoom} → Absent s t (Err y) → ⊥
refused_absent p = let e = p.0 in let z : ◌≡◌ {A = ℕ} 0 1 = cc in omega arith

pub some_absent : {s t : State} {n : ℕ} → Absent s t (Ok (Some n)) → ⊥
some_absent p = let e = p.0 in let z : ◌≡◌ {A = ℕ} 0 1 = cc in omega arith

-- a number that a store gave, or none, as an answer
pub built : {n : ℕ} {s t : State} {Q : Contents → ℕ → Type 0} {P : ℕ → Type 0} {Short : Type 0} {r : Result ℕ NoRoom} {y : NoRoom}
    (o : Option ℕ) → r ≡ ok_or o y → Builds n s t Q o → (Full n s t → Short) → ((k : ℕ) → Made n s t Q k → P k) → Answers Short P r
built (Some k) e b f g = rw e (g k b)
built None e b f g = rw e (f b)
