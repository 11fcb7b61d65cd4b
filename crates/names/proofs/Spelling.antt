-- A name compared with bytes, from the front.
use Rattle.std.proofs.Common.{◌≡◌, ℕ, ◌+◌, ◌<◌, ◌≤◌, Bool, false, ◌&&◌, eqb, [], ◌∷◌, length, get_or, drop, sym, refl, ap, ◌∙◌, inl, inr, eq-eqb, eqb-true}
use mathlib.Core.Option.{some}
use Rattle.std.proofs.lemmas.List.{drop_more, drop_all}
use Rattle.hol.specs.Base.{Word, same_word}
use Rattle.hol.proofs.Tools.{decided}
use Rattle.store.specs.State.{Contents}
use Rattle.names.specs.Tails.{Tail}

-- the first i bytes were in w too: `rest` stands for what is left of w, and that decides
pub record Left (c : Contents) (w bytes : Word) (i rest : ℕ) : Type 0 where
  pub left : Word
  pub is : c.word rest ≡ some left
  pub decides : same_word w bytes ≡ same_word left (drop i bytes)

abbrev pub Comparing : Contents → ℕ → Word → ℕ → ℕ → Type 0
Comparing c name bytes i rest = (w : Word) → c.word name ≡ some w → Left c w bytes i rest

pub start : (c : Contents) (name : ℕ) (bytes : Word) → Comparing c name bytes 0 name
start c name bytes w e = record { left = w; is = e; decides = refl }

-- a first byte that both have does not decide
same_head : (b : ℕ) (v ys : Word) → same_word (b ∷ v) (b ∷ ys) ≡ same_word v ys
same_head b v ys = ap (λ x. x && same_word v ys) (eq-eqb b b refl)

-- a name that does not begin with b is no name that does
no_head : (b : ℕ) (w ys : Word) → ((v : Word) → w ≡ b ∷ v → ⊥) → same_word w (b ∷ ys) ≡ false
no_head b [] ys no_tail = refl
no_head b (x ∷ xs) ys no_tail =
    elim (decided (eqb x b)) [ inl e ↦ absurd (no_tail xs (ap (λ y. y ∷ xs) (eqb-true x b e))) | inr e ↦ ap (λ t. t && same_word xs ys) e ]

module _ (c : Contents) (name : ℕ) (bytes : Word) (i rest : ℕ) (so_far : Comparing c name bytes i rest) where
  -- one byte more
  pub next : i < length bytes → (t : ℕ) → ((v : Word) → c.word rest ≡ some v → Tail c (get_or bytes i 0) v t) → Comparing c name bytes (i + 1) t
  next h t says w e =
      let k = so_far w e in
      let s = says k.left k.is in
      record { left = s.tail; is = s.tail_is; decides = k.decides ∙ (ap (λ v. same_word v (drop i bytes)) s.is ∙ (rw (drop_more bytes i 0 h) (same_head (get_or bytes i 0) s.tail (drop (i + 1) bytes)))) }

  -- another byte
  pub differs : i < length bytes → ((v : Word) → c.word rest ≡ some v → (u : Word) → v ≡ get_or bytes i 0 ∷ u → ⊥) → (w : Word) → c.word name ≡ some w → false ≡ same_word w bytes
  differs h says w e =
      let k = so_far w e in
      sym (k.decides ∙ (rw (drop_more bytes i 0 h) (no_head (get_or bytes i 0) k.left (drop (i + 1) bytes) (says k.left k.is))))

  -- no byte more
  pub ends : length bytes ≤ i → (r : Bool) → ((v : Word) → c.word rest ≡ some v → r ≡ same_word v []) → (w : Word) → c.word name ≡ some w → r ≡ same_word w bytes
  ends h r says w e =
      let k = so_far w e in
      says k.left k.is ∙ sym (k.decides ∙ (rw (drop_all i bytes h)))
