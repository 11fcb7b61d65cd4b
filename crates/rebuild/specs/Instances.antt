-- Which change each instance does, where its numbers stand for something.
use Rattle.std.specs.Prelude.{◌≡◌, ℕ, List, [], ◌∷◌, Some, None, Option}
use Rattle.std.proofs.Math.Option.{some}
use Rattle.hol.specs.Base.{Word}
use Rattle.hol.specs.Syntax.{Ty, Tm, fvar, TySubst, Subst, find_tm}
use Rattle.store.specs.State.{Contents}
use Rattle.rebuild_types.specs.Entries.{TyEntries}
use Rattle.rebuild.specs.Rebuilt.{Change, opening, closing, substituting, instantiating}

-- the term n for a bound variable
pub record Opens (c : Contents) (n : ℕ) (F : Change) : Type 0 where
  pub tm : Tm
  pub tm_is : c.term n ≡ some tm
  pub change : F ≡ opening tm

-- a bound variable for the free variable of the name x and the type a
pub record Closes (c : Contents) (x a : ℕ) (F : Change) : Type 0 where
  pub name : Word
  pub ty : Ty
  pub name_is : c.word x ≡ some name
  pub ty_is : c.typ a ≡ some ty
  pub change : F ≡ closing name ty

-- These words are these entries, in this order: three words an entry, the numbers of a name, a type and a term.
pub data Entries (c : Contents) : List ℕ → Subst → Type 0 where
  nothing : Entries c [] []
  entry : {x a n : ℕ} {w : Word} {b : Ty} {u : Tm} {ws : List ℕ} {es : Subst} → c.word x ≡ some w → c.typ a ≡ some b
      → c.term n ≡ some u → Entries c ws es → Entries c (x ∷ a ∷ n ∷ ws) (record { name = w; ty = b; tm = u } ∷ es)

pub record Substitutes (c : Contents) (ws : List ℕ) (F : Change) : Type 0 where
  pub entries : Subst
  pub entries_are : Entries c ws entries
  pub change : F ≡ substituting entries

pub record Instantiates (c : Contents) (ws : List ℕ) (F : Change) : Type 0 where
  pub entries : TySubst
  pub entries_are : TyEntries c ws entries
  pub change : F ≡ instantiating entries

-- a number for what the entries have for this variable; none where they have nothing
abbrev pub Finds : Contents → Subst → Word → Ty → Option ℕ → Type 0
Finds c es w b None = find_tm es w b ≡ fvar w b
Finds c es w b (Some n) = c.term n ≡ some (find_tm es w b)
