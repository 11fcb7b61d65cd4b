-- An option as an answer that may be refused: None says that there was no room.
use Rattle.std.proofs.Common.{◌≡◌, refl, Some, None, Option}
use Rattle.std.specs.Option.{ok_or}
use Rattle.lent.specs.declared.NoRoom.{NoRoom}
use Rattle.lent.specs.Answers.{Answers}

pub asked : {X short : Type 0} {P : X → Type 0} {e : NoRoom} (o : Option X) → (o ≡ None → short) → ((x : X) → o ≡ Some x → P x)
    → Answers short P (ok_or o e)
asked None f h = f refl
asked (Some x) f h = h x refl
