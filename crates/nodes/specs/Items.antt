-- What a number can stand for.
use Rattle.std.specs.Prelude.{◌≡◌, ℕ, List, [], ◌∷◌, length}
use Rattle.std.proofs.Math.Option.{Option, some, none}
use Rattle.hol.specs.Base.{Word, bind}
use Rattle.hol.specs.Syntax.{Ty, Tys, tnil, tcons, Tm}
use Rattle.store.specs.Measures.{nodes_ty, nodes_tys, nodes_tm, nodes_tms, capped}
use Rattle.store.specs.State.{Contents}

--   nil         the empty name, the empty list of types and the empty list of terms, all in one
--   name b w    a name: its first byte and the rest
--   ty a        a type
--   tys a as    a list of types: the first and the rest
--   tm t        a term
--   tms t ts    a list of terms: the first and the rest
pub data Item : Type 0 where
  nil : Item
  name : ℕ → Word → Item
  ty : Ty → Item
  tys : Ty → Tys → Item
  tm : Tm → Item
  tms : Tm → List Tm → Item

-- an item as a name, a type, a list of types, a term or a list of terms, if it is one
abbrev pub as_word : Item → Option Word
as_word nil = some []
as_word (name b w) = some (b ∷ w)
as_word (ty a) = none
as_word (tys a as₁) = none
as_word (tm t) = none
as_word (tms t ts) = none

abbrev pub as_type : Item → Option Ty
as_type nil = none
as_type (name b w) = none
as_type (ty a) = some a
as_type (tys a as₁) = none
as_type (tm t) = none
as_type (tms t ts) = none

abbrev pub as_types : Item → Option Tys
as_types nil = some tnil
as_types (name b w) = none
as_types (ty a) = none
as_types (tys a as₁) = some (tcons a as₁)
as_types (tm t) = none
as_types (tms t ts) = none

abbrev pub as_term : Item → Option Tm
as_term nil = none
as_term (name b w) = none
as_term (ty a) = none
as_term (tys a as₁) = none
as_term (tm t) = some t
as_term (tms t ts) = none

abbrev pub as_terms : Item → Option (List Tm)
as_terms nil = some []
as_terms (name b w) = none
as_terms (ty a) = none
as_terms (tys a as₁) = none
as_terms (tm t) = none
as_terms (tms t ts) = some (t ∷ ts)

-- what numbers stand for, read in each of the five ways
abbrev pub contents : (ℕ → Option Item) → Contents
contents f =
    record {
      word = λ n. bind (f n) as_word;
      typ = λ n. bind (f n) as_type;
      types = λ n. bind (f n) as_types;
      term = λ n. bind (f n) as_term;
      terms = λ n. bind (f n) as_terms;
    }

-- the number n stands for this item
abbrev pub Holds : Contents → ℕ → Item → Type 0
Holds c n nil = c.word n ≡ some []
Holds c n (name b w) = c.word n ≡ some (b ∷ w)
Holds c n (ty a) = c.typ n ≡ some a
Holds c n (tys a as₁) = c.types n ≡ some (tcons a as₁)
Holds c n (tm t) = c.term n ≡ some t
Holds c n (tms t ts) = c.terms n ≡ some (t ∷ ts)

-- the numbers m and n stand for the same, or both for nothing
pub record Alike (c : Contents) (m n : ℕ) : Type 0 where
  pub word : c.word m ≡ c.word n
  pub typ : c.typ m ≡ c.typ n
  pub types : c.types m ≡ c.types n
  pub term : c.term m ≡ c.term n
  pub terms : c.terms m ≡ c.terms n

-- how many nodes an item takes as a tree, as a word holds it; for a name its length
abbrev pub tree_size : Item → ℕ
tree_size nil = 0
tree_size (name b w) = capped (length (b ∷ w))
tree_size (ty a) = capped (nodes_ty a)
tree_size (tys a as₁) = capped (nodes_tys (tcons a as₁))
tree_size (tm t) = capped (nodes_tm t)
tree_size (tms t ts) = capped (nodes_tms (t ∷ ts))
