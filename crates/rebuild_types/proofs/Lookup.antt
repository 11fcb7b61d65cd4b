-- Looking a name up among entries that lie in words.
use Rattle.std.proofs.Common.{◌≡◌, ℕ, suc, ◌-◌, ◌<◌, ◌≤◌, Bool, true, false, List, [], ◌∷◌, length, get_or, take, drop, Some, None, sym, refl, ap, ◌∙◌, subst, arith, take_all}
use mathlib.Core.Option.{Option, some, none}
use Rattle.hol.specs.Base.{Word, same_word}
use Rattle.hol.specs.Syntax.{Ty, TySubst, find_ty}
use Rattle.store.specs.State.{Contents, Keeps, State, Stays}
use Rattle.rebuild_types.specs.Entries.{TyEntries, nothing, entry, Finds}
use Rattle.store.proofs.Growth.{stays_on}
use Rattle.names.proofs.Compared.{words_compared}

-- entries stay
pub entries-kept : {c d : Contents} {ws : List ℕ} {es : TySubst} → Keeps c d → TyEntries c ws es → TyEntries d ws es
entries-kept k nothing = nothing
entries-kept k (entry {x} {a} {w} {b} e f r) = entry (k.word x w e) (k.typ a b f) (entries-kept k r)

-- Of the words, those before the rest have been looked at: what the rest has for the name is what all have.
pub record Seeking (s t : State) (words rest : List ℕ) (name : ℕ) : Type 0 where
  pub stays : Stays s t
  pub same : (es : TySubst) (w : Word) → TyEntries s.contents words es → s.contents.word name ≡ some w
      → (fs : TySubst) × TyEntries s.contents rest fs × (find_ty fs w ≡ find_ty es w)

-- the words behind the first two
abbrev pub tail : List ℕ → List ℕ
tail ws = take (length ws - 2) (drop 2 ws)

-- two words before the others
pub two : (ws : List ℕ) → 2 ≤ length ws → ws ≡ get_or ws 0 0 ∷ get_or ws 1 0 ∷ tail ws
two [] h = absurd (omega arith)
two (x ∷ []) h = absurd (omega arith)
two (x ∷ a ∷ ws) h =
    let e : length ws ≤ suc (suc (length ws)) - 2 = omega arith in
    ap (λ vs. x ∷ a ∷ vs) (sym (take_all (suc (suc (length ws)) - 2) ws e))

-- a test of the name of an entry
module _ (s t u : State) (words rest : List ℕ) (name : ℕ) (r : Bool) (h : 2 ≤ length rest)
    (sound : r ≡ true → t.contents.word name ≡ t.contents.word (get_or rest 0 0))
    (complete : (v : Word) → t.contents.word name ≡ some v → t.contents.word (get_or rest 0 0) ≡ some v → r ≡ true)
    (k : Seeking s t words rest name) where
  an_entry : Seeking s t words (get_or rest 0 0 ∷ get_or rest 1 0 ∷ tail rest) name
  an_entry = subst (λ (ws : List ℕ). Seeking s t words ws name) (two rest h) k

  tested : (w v : Word) → s.contents.word name ≡ some w → s.contents.word (get_or rest 0 0) ≡ some v → same_word w v ≡ r
  tested w v e f =
      let q = k.stays.grows.keeps.word in
      sym (words_compared (q name w e) (q (get_or rest 0 0) v f) sound complete)

  -- another name: go on
  pub next : r ≡ false → Stays t u → Seeking s u words (tail rest) name
  next l q = record {
    stays = stays_on k.stays q;
    same = λ es w e h. go w h (an_entry.same es w e h);
  }
    where
      go : {o : Option Ty} (w : Word) → s.contents.word name ≡ some w
          → (fs : TySubst) × TyEntries s.contents (get_or rest 0 0 ∷ get_or rest 1 0 ∷ tail rest) fs × (find_ty fs w ≡ o)
          → (fs : TySubst) × TyEntries s.contents (tail rest) fs × (find_ty fs w ≡ o)
      go w h ([], i, p) = elim i [ ]
      go w h (f ∷ fs, entry {w = v} e₁ e₂ es, p) = (fs, es, rw (tested w v h e₁, l) at p)

  -- the name sought
  pub found : r ≡ true → (es : TySubst) (w : Word) → TyEntries s.contents words es → s.contents.word name ≡ some w
      → Finds s.contents (find_ty es w) (Some (get_or rest 1 0))
  found l es w e h = go h (an_entry.same es w e h)
    where
      go : {w : Word} {o : Option Ty} → s.contents.word name ≡ some w
          → (fs : TySubst) × TyEntries s.contents (get_or rest 0 0 ∷ get_or rest 1 0 ∷ tail rest) fs × (find_ty fs w ≡ o)
          → (b : Ty) × (o ≡ some b) × (s.contents.typ (get_or rest 1 0) ≡ some b)
      go {w} h ([], i, p) = elim i [ ]
      go {w} h (f ∷ fs, entry {w = v} {b = b} e₁ e₂ es, p) = (b, sym p ∙ rw (tested w v h e₁, l) refl, e₂)

-- fewer than two words are left: no entry
pub missed : (s t : State) (words rest : List ℕ) (name : ℕ) → Seeking s t words rest name → length rest < 2
    → (es : TySubst) (w : Word) → TyEntries s.contents words es → s.contents.word name ≡ some w
    → Finds s.contents (find_ty es w) None
missed s t words rest name k l es w e h = go rest l (k.same es w e h)
  where
    go : {o : Option Ty} (ws : List ℕ) → length ws < 2
        → (fs : TySubst) × TyEntries s.contents ws fs × (find_ty fs w ≡ o) → o ≡ none
    go [] l ([], i, p) = sym p
    go [] l (f ∷ fs, i, p) = elim i [ ]
    go (x ∷ []) l (fs, i, p) = elim i [ ]
    go (x ∷ a ∷ ws) l p = absurd (omega arith)
