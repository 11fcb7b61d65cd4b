-- What follows the first byte of a name.
use Rattle.std.specs.Prelude.{◌≡◌, ℕ, ◌∷◌, Some, None, Option, ◌≢◌}
use Rattle.std.proofs.Math.Option.{some}
use Rattle.hol.specs.Base.{Word}
use Rattle.store.specs.State.{Contents}

-- w is the byte b and then what the number t stands for
pub record Tail (c : Contents) (b : ℕ) (w : Word) (t : ℕ) : Type 0 where
  pub tail : Word
  pub is : w ≡ b ∷ tail
  pub tail_is : c.word t ≡ some tail

-- what follows the byte b in w; none if w does not begin with b
abbrev pub TailSays : Contents → ℕ → Word → Option ℕ → Type 0
TailSays c b w None = (v : Word) → w ≢ b ∷ v
TailSays c b w (Some t) = Tail c b w t
