-- The names of the λs around, as numbers of names, the innermost first.
use Rattle.std.specs.Prelude.{◌≡◌, ℕ, List, [], ◌∷◌, Some, None, Option}
use Rattle.std.proofs.Math.Option.{Option as Maybe, some, none}
use Rattle.hol.specs.Base.{Word}
use Rattle.store.specs.State.{Contents}

-- these numbers stand for these names
pub data Names (c : Contents) : List ℕ → List Word → Type 0 where
  no_names : Names c [] []
  one_name : {n : ℕ} {ns : List ℕ} {w : Word} {ws : List Word} → c.word n ≡ some w → Names c ns ws → Names c (n ∷ ns) (w ∷ ws)

-- the place that was found; none where there is none
abbrev pub Places : Maybe ℕ → Option ℕ → Type 0
Places o None = o ≡ none
Places o (Some k) = o ≡ some k
