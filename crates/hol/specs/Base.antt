-- Options, lists and names.
use Rattle.std.specs.Prelude.{ℕ, zero, suc, Bool, true, false, ◌&&◌, ◌||◌, List, [], ◌∷◌, ◌==◌}
use Rattle.std.proofs.Math.Option.{Option, some, none}

-- f of what is there, or c where nothing is
abbrev pub option : {A C : Type 0} → Option A → C → (A → C) → C
option none c f = c
option (some x) c f = f x

-- go on with what is there; nothing where nothing is
abbrev pub bind : {A C : Type 0} → Option A → (A → Option C) → Option C
bind none f = none
bind (some x) f = f x

-- o where the test holds; nothing where it fails
abbrev pub guard : {A : Type 0} → Bool → Option A → Option A
guard true o = o
guard false o = none

abbrev pub is_some : {A : Type 0} → Option A → Bool
is_some none = false
is_some (some x) = true

-- the element at place n, from 0
abbrev pub nth : {A : Type 0} → List A → ℕ → Option A
nth [] n = none
nth (x ∷ xs) zero = some x
nth (x ∷ xs) (suc n) = nth xs n

abbrev pub all : {A : Type 0} → (A → Bool) → List A → Bool
all f [] = true
all f (x ∷ xs) = f x && all f xs

abbrev pub any : {A : Type 0} → (A → Bool) → List A → Bool
any f [] = false
any f (x ∷ xs) = f x || any f xs

-- a name: its bytes
abbrev pub Word : Type 0
Word = List ℕ

-- Wherever a name is looked for, the name sought stands first and the name kept second.
abbrev pub same_word : Word → Word → Bool
same_word [] [] = true
same_word [] (y ∷ ys) = false
same_word (x ∷ xs) [] = false
same_word (x ∷ xs) (y ∷ ys) = x == y && same_word xs ys

abbrev pub among : Word → List Word → Bool
among w ws = any (same_word w) ws
