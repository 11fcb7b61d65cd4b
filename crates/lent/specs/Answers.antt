-- Answers that may be refused for want of room, and for nothing else.
use Rattle.std.specs.Prelude.{Ok, Err, Result}
use Rattle.lent.specs.declared.NoRoom.{NoRoom}

-- P of the answer; or, where there is none, that room was short
abbrev pub Answers : {X : Type 0} → Type 0 → (X → Type 0) → Result X NoRoom → Type 0
Answers short P (Ok x) = P x
Answers short P (Err e) = short
