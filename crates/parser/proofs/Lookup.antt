-- The names of the λs around, looked through from the innermost.
use Rattle.std.proofs.Common.{◌≡◌, ℕ, ◌+◌, ◌<◌, true, false, cond, List, [], ◌∷◌, length, get_or, drop, sym, refl, ap, ◌∙◌, inl, inr}
use Rattle.std.proofs.lemmas.List.{at_drop_more}
use mathlib.Core.Option.{some, none}
use Rattle.hol.specs.Base.{Word, same_word}
use Rattle.hol.specs.Text.{index_of}
use Rattle.hol.proofs.Tools.{decided, clash}
use Rattle.hol.proofs.Equality.{word_eq, word_refl}
use Rattle.store.specs.State.{Contents}
use Rattle.parser.specs.Scope.{Names, no_names, one_name}

same_word_sym : (v w : Word) → same_word v w ≡ same_word w v
same_word_sym v w = elim (decided (same_word v w)) [
  | inl e ↦ (let i = word_eq v w e in e ∙ sym (ap (same_word w) i ∙ word_refl w))
  | inr e ↦ elim (decided (same_word w v)) [
    | inl f ↦ (let i = word_eq w v f in clash (ap (same_word v) i ∙ word_refl v) e)
    | inr f ↦ e ∙ sym f
  ]
]

-- the next name of those that are left
pub next_left : (ns : List ℕ) (k n : ℕ) → (k < length ns) × (n ≡ get_or ns k n) → drop k ns ≡ n ∷ drop (k + 1) ns
next_left ns k n h = at_drop_more (λ xs. xs) ns k n h.0 ∙ ap (λ m. m ∷ drop (k + 1) ns) (sym h.1)

-- the names of ns are left to look at, and k were passed: they decide
pub record Seeking (c : Contents) (w : Word) (xs : List Word) (ns : List ℕ) (k : ℕ) : Type 0 where
  pub left : List Word
  pub names : Names c ns left
  pub decides : index_of w xs 0 ≡ index_of w left k

pub start : {c : Contents} {w : Word} {xs : List Word} {ns : List ℕ} → Names c ns xs → Seeking c w xs ns 0
start {xs = xs} h = record { left = xs; names = h; decides = refl }

module _ {c : Contents} {w : Word} {xs : List Word} {k n : ℕ} {ms : List ℕ} where
  -- the innermost that is left has another name
  pub passed : Seeking c w xs (n ∷ ms) k → ((v : Word) → c.word n ≡ some v → false ≡ same_word v w) → Seeking c w xs ms (k + 1)
  passed s h = go s.names s.decides
    where
      go : {left : List Word} → Names c (n ∷ ms) left → index_of w xs 0 ≡ index_of w left k → Seeking c w xs ms (k + 1)
      go (one_name {w = v} {ws = ws} e r) d =
          let i = same_word_sym w v ∙ sym (h v e) in
          record { left = ws; names = r; decides = d ∙ ap (λ b. cond b (some k) (index_of w ws (k + 1))) i }

  -- it has this name
  pub found : Seeking c w xs (n ∷ ms) k → ((v : Word) → c.word n ≡ some v → true ≡ same_word v w) → index_of w xs 0 ≡ some k
  found s h = go s.names s.decides
    where
      go : {left : List Word} → Names c (n ∷ ms) left → index_of w xs 0 ≡ index_of w left k → index_of w xs 0 ≡ some k
      go (one_name {w = v} {ws = ws} e r) d =
          let i = same_word_sym w v ∙ sym (h v e) in
          d ∙ ap (λ b. cond b (some k) (index_of w ws (k + 1))) i

-- none is left
pub missing : {c : Contents} {w : Word} {xs : List Word} {k : ℕ} → Seeking c w xs [] k → index_of w xs 0 ≡ none
missing {c} {w} {xs} {k} s = go s.names s.decides
  where
    go : {left : List Word} → Names c [] left → index_of w xs 0 ≡ index_of w left k → index_of w xs 0 ≡ none
    go no_names d = d
