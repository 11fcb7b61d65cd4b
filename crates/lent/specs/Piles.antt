-- What a stack of lent words holds, and what its methods do to it.
use Rattle.std.specs.Prelude.{◌≡◌, ℕ, ◌+◌, ◌-◌, ◌<◌, List, [], ◌∷◌, length, take, drop, reverse, Some, None, Option, Ok, Err, Result}
use Rattle.lent.specs.declared.NoRoom.{NoRoom}
use Rattle.lent.specs.declared.stack.Stack.{Stack}

-- the words on a stack, the newest first; how many it can hold; and which words these are, by the ghost name of the reference to them
pub record Pile : Type 0 where
  pub held : List ℕ
  pub capacity : ℕ
  pub name : ℕ

-- a stack of the first n of the words ws, to which the reference r leads
abbrev pub pile : List ℕ → ℕ → ℕ → Pile
pile ws n r = record { held = reverse (take n ws); capacity = length ws; name = r }

-- what a stack is to those who call it: contracts speak of this, and of the words alone where these are made or given back
unfoldable pub pile_of : Stack → Pile
pile_of s = pile s.words.now s.len s.words.ghost_name

-- the words of a stack that are free
abbrev pub free_words : Stack → List ℕ
free_words s = drop s.len s.words.now

-- how many more words it can hold
abbrev pub spare : Pile → ℕ
spare p = p.capacity - length p.held

-- its n oldest words alone
abbrev pub cut : ℕ → Pile → Pile
cut n p = record { held = drop (length p.held - n) p.held; capacity = p.capacity; name = p.name }

-- these words one after the other onto h, so that the last of them is the newest
abbrev pub onto : List ℕ → List ℕ → List ℕ
onto [] h = h
onto (w ∷ ws) h = onto ws (w ∷ h)

-- ws were pushed; or there was no place for all of them, and nothing has changed
abbrev pub Pushes : List ℕ → Pile → Pile → Result (Unit {0}) NoRoom → Type 0
Pushes ws p q (Ok x) = (q.held ≡ onto ws p.held) × (q.capacity ≡ p.capacity) × (q.name ≡ p.name)
Pushes ws p q (Err e) = (q ≡ p) × (p.capacity < length p.held + length ws)

-- the newest word was taken; or there was none
abbrev pub Pops : Pile → Pile → Option ℕ → Type 0
Pops p q None = (q ≡ p) × (p.held ≡ [])
Pops p q (Some w) = (p.held ≡ w ∷ q.held) × (q.capacity ≡ p.capacity) × (q.name ≡ p.name)

-- the two newest words were taken; or there were not two
abbrev pub PopsPair : Pile → Pile → Option (ℕ × ℕ) → Type 0
PopsPair p q None = (q ≡ p) × (length p.held < 2)
PopsPair p q (Some w) = (p.held ≡ w.0 ∷ w.1 ∷ q.held) × (q.capacity ≡ p.capacity) × (q.name ≡ p.name)
