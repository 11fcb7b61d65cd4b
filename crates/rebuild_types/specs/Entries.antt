-- The entries of a type substitution as words: two words an entry, the number of a name and the number of a type.
use Rattle.std.specs.Prelude.{◌≡◌, ℕ, List, [], ◌∷◌, Some, None, Option}
use Rattle.std.proofs.Math.Option.{Option as Maybe, some, none}
use Rattle.hol.specs.Base.{Word}
use Rattle.hol.specs.Syntax.{Ty, TySubst}
use Rattle.store.specs.State.{Contents}

-- these words are these entries, in this order
pub data TyEntries (c : Contents) : List ℕ → TySubst → Type 0 where
  nothing : TyEntries c [] []
  entry : {x a : ℕ} {w : Word} {b : Ty} {ws : List ℕ} {es : TySubst} → c.word x ≡ some w → c.typ a ≡ some b → TyEntries c ws es
      → TyEntries c (x ∷ a ∷ ws) (record { name = w; ty = b } ∷ es)

-- a number for what was found; none where nothing was
abbrev pub Finds : Contents → Maybe Ty → Option ℕ → Type 0
Finds c o None = o ≡ none
Finds c o (Some n) = (b : Ty) × (o ≡ some b) × (c.typ n ≡ some b)
