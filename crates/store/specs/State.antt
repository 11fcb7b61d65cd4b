-- What a store holds, and what a call may do to it.
use Rattle.std.specs.Prelude.{◌≡◌, ℕ, ◌+◌, ◌≤◌, List}
use Rattle.std.proofs.Math.Option.{Option, some}
use Rattle.hol.specs.Base.{Word}
use Rattle.hol.specs.Syntax.{Ty, Tys, Tm}

-- which name, type, list of types, term or list of terms a number stands for
pub record Contents : Type 0 where
  pub word : ℕ → Option Word
  pub typ : ℕ → Option Ty
  pub types : ℕ → Option Tys
  pub term : ℕ → Option Tm
  pub terms : ℕ → Option (List Tm)

-- what stood for something stands for the same
abbrev pub Kept : {A : Type 0} → (ℕ → Option A) → (ℕ → Option A) → Type 0
Kept {A} f g = (n : ℕ) (x : A) → f n ≡ some x → g n ≡ some x

-- nothing kept is lost
pub record Keeps (c d : Contents) : Type 0 where
  pub word : Kept c.word d.word
  pub typ : Kept c.typ d.typ
  pub types : Kept c.types d.types
  pub term : Kept c.term d.term
  pub terms : Kept c.terms d.terms

--   contents    what its numbers stand for
--   left        so many more nodes can be kept for sure
--   count       a mark of how much is kept: a smaller one stands for an earlier moment
--   at m        what was kept at the mark m
--   left_at m   how many more could be kept then
pub record State : Type 0 where
  pub contents : Contents
  pub left : ℕ
  pub count : ℕ
  pub at : ℕ → Contents
  pub left_at : ℕ → ℕ

-- from s to t nothing is lost and at most n nodes are spent; marks stand for what they stood for
pub record Grows (n : ℕ) (s t : State) : Type 0 where
  pub keeps : Keeps s.contents t.contents
  pub cost : s.left ≤ t.left + n
  pub count : s.count ≤ t.count
  pub marks : (m : ℕ) → m ≤ s.count → t.at m ≡ s.at m
  pub lefts : (m : ℕ) → m ≤ s.count → t.left_at m ≡ s.left_at m

-- nothing is lost and nothing is spent
pub record Stays (s t : State) : Type 0 where
  pub grows : Grows 0 s t
  pub left : t.left ≡ s.left
  pub count : t.count ≡ s.count

-- the state at the mark m
abbrev pub back : ℕ → State → State
back m s = record { contents = s.at m; left = s.left_at m; count = m; at = s.at; left_at = s.left_at }
