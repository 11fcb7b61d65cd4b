-- A refusal for want of room, handed on.
use Rattle.std.proofs.Common.{◌≡◌, true, true≢false, is_err, Ok, Err, Result, refl, sym}
use Rattle.lent.specs.Answers.{Answers}
use Rattle.lent.specs.declared.NoRoom.{NoRoom}

pub refused : {X Short : Type 0} (P : X → Type 0) (r : Result X NoRoom) → is_err r ≡ true → Short → Answers Short P r
refused P (Ok x) e h = absurd (true≢false (sym e))
refused P (Err y) e h = h

-- an answer that is refused
pub an_err : {X : Type 0} (r : Result X NoRoom) → is_err r ≡ true → (e : NoRoom) × (r ≡ Err e)
an_err (Ok x) q = absurd (true≢false (sym q))
an_err (Err e) q = (e, refl)
