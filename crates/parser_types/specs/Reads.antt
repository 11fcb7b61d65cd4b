-- What a call that reads from a stream of tokens says of its answer.
use Rattle.std.specs.Prelude.{◌≡◌, ℕ, ◌+◌, ◌*◌, ◌<◌, Bool, true, false, ◌⊎◌, List, ◌∷◌, length, Some, None, Ok, Option, Result}
use Rattle.std.proofs.Math.Option.{Option as Maybe, some, none}
use Rattle.hol.specs.Base.{Word}
use Rattle.hol.specs.Text.{Token, word, read_type_word}
use Rattle.store.specs.State.{Contents, State, Grows}
use Rattle.store.specs.Builds.{Made, IsWord}
use Rattle.lent.specs.Answers.{Answers}
use Rattle.lent.specs.declared.NoRoom.{NoRoom}

-- o is there, and n stands for it; the stream goes on behind
pub record Read {A : Type 0} (kept : Contents → ℕ → Maybe A) (o : Maybe A) (cost : ℕ) (s t : State) (qs ps : List Token) (n : ℕ) : Type 0 where
  pub value : A
  pub reads : o ≡ some value
  pub stands : kept t.contents n ≡ some value
  pub grows : Grows cost s t
  pub behind : ps ≡ qs

-- nothing can be read
pub record Unread {A : Type 0} (o : Maybe A) (cost : ℕ) (s t : State) : Type 0 where
  pub reads : o ≡ none
  pub grows : Grows cost s t

abbrev pub Reading : {A : Type 0} → (Contents → ℕ → Maybe A) → Maybe A → ℕ → State → State → List Token → List Token → Option ℕ → Type 0
Reading kept o cost s t qs ps (Some n) = Read kept o cost s t qs ps n
Reading kept o cost s t qs ps None = Unread o cost s t

-- what costs at most `cost` is refused only if there are fewer nodes, or fewer than four words of stack for each
abbrev pub Short : (room cost : ℕ) → State → Type 0
Short room cost s = (s.left < cost) ⊎ (room < 4 * cost)

-- A reading from s to t of something that costs at most `cost`, with `room` words of stack: o is what the definition reads, qs the
-- tokens behind it, ps the tokens that are ahead then.
abbrev pub Reads : {A : Type 0} → (Contents → ℕ → Maybe A) → Maybe A → (room cost : ℕ) → State → State → List Token → List Token
    → Result (Option ℕ) NoRoom → Type 0
Reads kept o room cost s t qs ps r = Answers (Short room cost s) (Reading kept o cost s t qs ps) r

-- there was nothing to be read
abbrev pub Absent : State → State → Result (Option ℕ) NoRoom → Type 0
Absent s t r = (r ≡ Ok None) × Grows 0 s t

-- the type that a word stands for
abbrev pub IsWordType : Word → Contents → ℕ → Type 0
IsWordType w c n = c.typ n ≡ some (read_type_word w)

abbrev pub WordSays : Word → State → State → Result ℕ NoRoom → Type 0
WordSays w s t r = Answers (s.left < 1 + length w) (Made (1 + length w) s t (IsWordType w)) r

-- NAMES are words that are not refused: `refuses` says which words are.

-- The first token of ps is a name, and was kept; behind it the stream is rs.
pub record Named (refuses : Word → Bool) (s t : State) (ps rs : List Token) (n : ℕ) : Type 0 where
  pub name : Word
  pub plain : refuses name ≡ false
  pub ahead : ps ≡ word name ∷ rs
  pub made : Made (length name) s t (IsWord name) n

-- no word is the first token, or one that is refused
pub record Unnamed (refuses : Word → Bool) (s t : State) (ps : List Token) : Type 0 where
  pub same : t ≡ s
  pub no_name : (w : Word) (qs : List Token) → ps ≡ word w ∷ qs → refuses w ≡ true

abbrev pub Naming : (Word → Bool) → State → State → List Token → List Token → Option ℕ → Type 0
Naming refuses s t ps rs (Some n) = Named refuses s t ps rs n
Naming refuses s t ps rs None = Unnamed refuses s t ps

-- there was no room for the word
pub record NameShort (s : State) (ps : List Token) : Type 0 where
  pub name : Word
  pub behind : List Token
  pub ahead : ps ≡ word name ∷ behind
  pub short : s.left < length name

abbrev pub NameSays : (Word → Bool) → State → State → List Token → List Token → Result (Option ℕ) NoRoom → Type 0
NameSays refuses s t ps rs r = Answers (NameShort s ps) (Naming refuses s t ps rs) r
