-- Which theory a signature stands for.
use Rattle.hol.specs.Theory.{Theory}
use Rattle.store.specs.State.{Contents, Keeps}

-- knows c th: where numbers stand for the contents c, this is the theory th. That stays so while the store grows.
pub record Meaning : Type 1 where
  pub knows : Contents → Theory → Type 0
  pub kept : (c d : Contents) (th : Theory) → Keeps c d → knows c th → knows d th
