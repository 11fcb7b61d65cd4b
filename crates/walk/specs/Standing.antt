-- Words that stand for things, in order.
use Rattle.std.specs.Prelude.{◌≡◌, ℕ, List, [], ◌∷◌}
use Rattle.std.proofs.Math.Option.{Option, some}
use Rattle.hol.specs.Base.{Word}
use Rattle.store.specs.State.{Contents}

-- the words stand for the items, by what each one stands for
pub data Stand {I : Type 0} (at : ℕ → Option I) : List ℕ → List I → Type 0 where
  done : Stand at [] []
  more : {n : ℕ} {i : I} {ns : List ℕ} {is : List I} → at n ≡ some i → Stand at ns is → Stand at (n ∷ ns) (i ∷ is)

-- the words stand for these names
abbrev pub Names : Contents → List ℕ → List Word → Type 0
Names c ns ws = Stand c.word ns ws
