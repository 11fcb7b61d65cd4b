-- Looking a free variable up among entries that lie in words.
use Rattle.std.proofs.Common.{◌≡◌, ℕ, suc, ◌-◌, ◌<◌, ◌≤◌, Bool, true, false, List, [], ◌∷◌, length, get_or, take, drop, Some, None, sym, refl, ap, ◌∙◌, subst, arith, take_all}
use mathlib.Core.Option.{some}
use Rattle.hol.specs.Base.{Word}
use Rattle.hol.specs.Syntax.{Ty, Tm, fvar, same_var, Subst, find_tm}
use Rattle.store.specs.State.{State, Stays}
use Rattle.store.proofs.Growth.{stays_on}
use Rattle.rebuild.specs.Instances.{Entries, entry, Finds}

-- the test of a variable of the number x and the type a against another, in the state s
abbrev pub Tested : State → (x a y b : ℕ) → Bool → Type 0
Tested s x a y b r = (v : Word) (c : Ty) (w : Word) (d : Ty) → s.contents.word x ≡ some v → s.contents.typ a ≡ some c
    → s.contents.word y ≡ some w → s.contents.typ b ≡ some d → r ≡ same_var v c w d

-- Of the words, those before the rest have been looked at: what the rest has for the variable is what all have.
pub record Seeking (s t : State) (words rest : List ℕ) (x a : ℕ) : Type 0 where
  pub stays : Stays s t
  pub same : (es : Subst) (w : Word) (b : Ty) → Entries s.contents words es → s.contents.word x ≡ some w → s.contents.typ a ≡ some b
      → (fs : Subst) × Entries s.contents rest fs × (find_tm fs w b ≡ find_tm es w b)

-- the words behind the first three
abbrev pub tail : List ℕ → List ℕ
tail ws = take (length ws - 3) (drop 3 ws)

-- three words before the others
three : (ws : List ℕ) → 3 ≤ length ws → ws ≡ get_or ws 0 0 ∷ get_or ws 1 0 ∷ get_or ws 2 0 ∷ tail ws
three [] h = absurd (omega arith)
three (x ∷ []) h = absurd (omega arith)
three (x ∷ a ∷ []) h = absurd (omega arith)
three (x ∷ a ∷ t ∷ ws) h =
    let e : length ws ≤ suc (suc (suc (length ws))) - 3 = omega arith in
    ap (λ vs. x ∷ a ∷ t ∷ vs) (sym (take_all (suc (suc (suc (length ws))) - 3) ws e))

module _ (s t u : State) (words rest : List ℕ) (x a : ℕ) (r : Bool) (h : 3 ≤ length rest) (k : Seeking s t words rest x a)
    (test : Tested t x a (get_or rest 0 0) (get_or rest 1 0) r) where
  an_entry : Seeking s t words (get_or rest 0 0 ∷ get_or rest 1 0 ∷ get_or rest 2 0 ∷ tail rest) x a
  an_entry = subst (λ (ws : List ℕ). Seeking s t words ws x a) (three rest h) k

  tested : Tested s x a (get_or rest 0 0) (get_or rest 1 0) r
  tested v c w d e₁ e₂ e₃ e₄ =
      let q = k.stays.grows.keeps in
      test v c w d (q.word x v e₁) (q.typ a c e₂) (q.word (get_or rest 0 0) w e₃) (q.typ (get_or rest 1 0) d e₄)

  -- another variable: go on
  pub next : r ≡ false → Stays t u → Seeking s u words (tail rest) x a
  next l q = record {
    stays = stays_on k.stays q;
    same = λ es w b e i j. go w b i j (an_entry.same es w b e i j);
  }
    where
      go : {o : Tm} (w : Word) (b : Ty) → s.contents.word x ≡ some w → s.contents.typ a ≡ some b
          → (fs : Subst) × Entries s.contents (get_or rest 0 0 ∷ get_or rest 1 0 ∷ get_or rest 2 0 ∷ tail rest) fs × (find_tm fs w b ≡ o)
          → (fs : Subst) × Entries s.contents (tail rest) fs × (find_tm fs w b ≡ o)
      go w b i j ([], e, p) = elim e [ ]
      go w b i j (f ∷ fs, entry {w = v} {b = d} e₁ e₂ e₃ es, p) = (fs, es, rw (sym (tested w b v d i j e₁ e₂) ∙ l) at p)

  -- the variable sought
  pub found : r ≡ true → (es : Subst) (w : Word) (b : Ty) → Entries s.contents words es → s.contents.word x ≡ some w
      → s.contents.typ a ≡ some b → Finds s.contents es w b (Some (get_or rest 2 0))
  found l es w b e i j = go i j (an_entry.same es w b e i j)
    where
      go : {w : Word} {b : Ty} {o : Tm} → s.contents.word x ≡ some w → s.contents.typ a ≡ some b
          → (fs : Subst) × Entries s.contents (get_or rest 0 0 ∷ get_or rest 1 0 ∷ get_or rest 2 0 ∷ tail rest) fs × (find_tm fs w b ≡ o)
          → s.contents.term (get_or rest 2 0) ≡ some o
      go i j ([], e, p) = elim e [ ]
      go {w} {b} i j (f ∷ fs, entry {w = v} {b = d} e₁ e₂ e₃ es, p) = e₃ ∙ ap some (sym (rw (sym (tested w b v d i j e₁ e₂) ∙ l) refl) ∙ p)

-- fewer than three words are left: no entry
pub missed : (s t : State) (words rest : List ℕ) (x a : ℕ) → Seeking s t words rest x a → length rest < 3
    → (es : Subst) (w : Word) (b : Ty) → Entries s.contents words es → s.contents.word x ≡ some w → s.contents.typ a ≡ some b
    → Finds s.contents es w b None
missed s t words rest x a k l es w b e i j = go rest l (k.same es w b e i j)
  where
    go : {o : Tm} (ws : List ℕ) → length ws < 3 → (fs : Subst) × Entries s.contents ws fs × (find_tm fs w b ≡ o) → o ≡ fvar w b
    go [] l ([], i, p) = sym p
    go [] l (f ∷ fs, i, p) = elim i [ ]
    go (y ∷ []) l (fs, i, p) = elim i [ ]
    go (y ∷ z ∷ []) l (fs, i, p) = elim i [ ]
    go (y ∷ z ∷ n ∷ ws) l p = absurd (omega arith)
