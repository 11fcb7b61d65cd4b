-- What holds while pairs are still to be compared, and what it says at the end.
use Rattle.std.proofs.Common.{◌≡◌, ℕ, ◌+◌, ◌*◌, ◌<◌, ◌≤◌, List, length, ap}
use mathlib.Core.Option.{Option}
use Rattle.nodes.specs.declared.pair.Pair.{Pair}
use Rattle.nodes.specs.Items.{Item}
use Rattle.nodes.specs.Comparing.{Same}
use Rattle.nodes.proofs.Pairs.{Roomy, Equal, Sames, none_equal}

--   room, rooms        there is room for all pairs that will be kept
--   sound, complete    m and n stand for the same if all pairs do; and only if
pub record Comparing (f : ℕ → Option Item) (used m n : ℕ) (p : Pair) (pairs : List ℕ) : Type 0 where
  pub room : p.a ≤ used → length pairs + 2 * p.a ≤ 2 * used
  pub rooms : Roomy used pairs
  pub sound : Equal f pairs → f p.a ≡ f p.b → f m ≡ f n
  pub complete : Same f m n → Same f p.a p.b
  pub completes : Same f m n → Sames f pairs

-- no pair is left
pub ends : {f : ℕ → Option Item} {used m n : ℕ} {p : Pair} {pairs : List ℕ} → Comparing f used m n p pairs → p.a ≡ p.b → length pairs < 2
    → f m ≡ f n
ends {f} {pairs = pairs} now e h = now.sound (none_equal f pairs h) (ap f e)
