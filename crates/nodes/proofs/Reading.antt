-- Reading a number: its node shows what it stands for, and has its size.
use Rattle.std.proofs.Common.{◌≡◌, ℕ, ◌+◌, ◌-◌, ◌^◌, min, true, false, cond, List, [], ◌∷◌, length, Some, None, Option as Answer, MatchOption, sym, refl, ap, ◌∙◌, subst, inl, inr, arith}
use mathlib.Core.Option.{some}
use Rattle.hol.specs.Base.{Word}
use Rattle.hol.specs.Syntax.{Tys, tnil, tcons, Tm}
use Rattle.store.specs.Measures.{nodes_tys, nodes_tms, capped}
use Rattle.store.specs.State.{Contents}
use Rattle.nodes.specs.declared.kind.Kind.{Kind}
use Rattle.nodes.specs.declared.node.Node.{Node}
use Rattle.nodes.specs.Kinds.{counts_first}
use Rattle.nodes.specs.Table.{look}
use Rattle.nodes.specs.Items.{Item, ty, tm, contents, Holds, tree_size}
use Rattle.nodes.specs.Meaning.{made, items, Shows, Gets, Sized}
use Rattle.nodes.proofs.Made.{Made, m_byte, m_tyvar, m_tyapp, m_tys, m_free, m_bound, m_const, m_app, m_lam, m_tms, to_made, made_of}
use Rattle.nodes.proofs.Readings.{item-held, of_word, of_types, of_terms, word-item, types-item, terms-item}
use Rattle.nodes.proofs.Rows.{look_zero}
use Rattle.nodes.proofs.Numbers.{opened}

shows : (ds : List (Answer Node)) (n : ℕ) (i : Item) → Holds (contents (items ds)) n i → Shows (contents (items ds)) n i (look ds n)
shows ds n i h =
    elim (opened ds n i (item-held (items ds) n i h)) [
      | inl z ↦ subst (Shows (contents (items ds)) n i) (sym (ap (look ds) z.0 ∙ look_zero ds)) z
      | inr w ↦ subst (Shows (contents (items ds)) n i) (sym w.found) (made_of w.parts)
    ]

pub gets : (ds : List (Answer Node)) (n : ℕ) {o : Answer Node} → o ≡ look ds n → Gets ds n o
gets ds n {o} e = record { node = e; shows = λ i h. subst (Shows (contents (items ds)) n i) (sym e) (shows ds n i h) }

-- the size that is read
abbrev pub size_at : Answer Node → ℕ
size_at None = 0
size_at (Some d) = d.size

size-item : (ds : List (Answer Node)) (n : ℕ) (i : Item) → items ds n ≡ some i → size_at (look ds n) ≡ tree_size i
size-item ds n i e =
    elim (opened ds n i e) [
      | inl z ↦ ap size_at (ap (look ds) z.0 ∙ look_zero ds) ∙ sym (ap tree_size z.1)
      | inr w ↦ ap size_at w.found ∙ w.size
    ]

word_size : (w : Word) → tree_size (of_word w) ≡ capped (length w)
word_size [] = refl
word_size (b ∷ w) = refl

types-size : (bs : Tys) → tree_size (of_types bs) ≡ capped (nodes_tys bs)
types-size tnil = refl
types-size (tcons a as₁) = refl

terms-size : (ts : List Tm) → tree_size (of_terms ts) ≡ capped (nodes_tms ts)
terms-size [] = refl
terms-size (t ∷ ts) = refl

size_read : (ds : List (Answer Node)) (n : ℕ) → Sized (contents (items ds)) n (size_at (look ds n))
size_read ds n =
    let f = items ds in
    record {
      word = λ w h. size-item ds n (of_word w) (word-item f n w h) ∙ word_size w;
      typ = λ a h. size-item ds n (ty a) (item-held f n (ty a) h);
      types = λ bs h. size-item ds n (of_types bs) (types-item f n bs h) ∙ types-size bs;
      term = λ t h. size-item ds n (tm t) (item-held f n (tm t) h);
      terms = λ ts h. size-item ds n (of_terms ts) (terms-item f n ts h) ∙ terms-size ts;
    }

pub size_of : (ds : List (Answer Node)) (n : ℕ) {o : Answer Node} → o ≡ look ds n → Sized (contents (items ds)) n (size_at o)
size_of ds n e = subst (λ o. Sized (contents (items ds)) n (size_at o)) (sym e) (size_read ds n)

-- the same by the answer of a reading
pub size_asked : (ds : List (Answer Node)) (n : ℕ) (o : Answer Node) (r : ℕ) {P : Node → Type 0} → o ≡ look ds n → MatchOption o (r ≡ 0) P
    → ((d : Node) → P d → r ≡ d.size) → Sized (contents (items ds)) n r
size_asked ds n None r e h size = rw h (size_of ds n e)
size_asked ds n (Some d) r e h size = rw (size d h) (size_of ds n e)

-- one more than the parts that are counted, as saturating sums give it
size-made : {c : Contents} {k : Kind} {x y : ℕ} {i : Item} (a b : ℕ) → (counts_first k ≡ true → Sized c x a) → Sized c y b
    → Made c k x y i
    → cond (counts_first k) (min (min (b + 1) (2 ^ 64 - 1) + a) (2 ^ 64 - 1)) (min (b + 1) (2 ^ 64 - 1)) ≡ tree_size i
size-made a b p q (m_byte {w = w} g h) = omega (arith, q.word w h)
size-made a b p q (m_tyvar g h) = omega (arith, q.word [] g)
size-made a b p q (m_tyapp {bs = bs} g h) = omega (arith, q.types bs h)
size-made a b p q (m_tys {b = d} {bs = bs} g h) = omega (arith, (p refl).typ d g, q.types bs h)
size-made a b p q (m_free {b = d} g h) = omega (arith, q.typ d h)
size-made a b p q (m_bound g) = omega (arith, q.word [] g)
size-made a b p q (m_const {bs = bs} g h) = omega (arith, q.types bs h)
size-made a b p q (m_app {s = s} {t = t} g h) = omega (arith, (p refl).term s g, q.term t h)
size-made a b p q (m_lam {b = d} {t = t} g h) = omega (arith, (p refl).typ d g, q.term t h)
size-made a b p q (m_tms {t = t} {ts = ts} g h) = omega (arith, (p refl).term t g, q.terms ts h)

-- where both parts are counted, and where only the second is
pub size_both : (c : Contents) (k : Kind) (x y a b sum r : ℕ) → Sized c x a → Sized c y b → sum ≡ min (b + 1) (2 ^ 64 - 1)
    → r ≡ min (sum + a) (2 ^ 64 - 1) → true ≡ counts_first k → (i : Item) → made c k x y ≡ some i → r ≡ tree_size i
size_both c k x y a b sum r p q e f is i h = let m = size-made a b (λ _. p) q (to_made c k x y h) in cc

pub size-second : (c : Contents) (k : Kind) (x y b r : ℕ) → Sized c y b → r ≡ min (b + 1) (2 ^ 64 - 1) → false ≡ counts_first k
    → (i : Item) → made c k x y ≡ some i → r ≡ tree_size i
size-second c k x y b r q e is i h =
    let m = size-made 0 b (λ t. absurd (let z : ◌≡◌ {A = ℕ} 0 1 = cc in omega arith)) q (to_made c k x y h) in cc
