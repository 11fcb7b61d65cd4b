-- A stack of words that stand for items still to be gone through, over plain lists and functions.
--   at      which item a word stands for
--   act     what going through an item does to a state
--   size    how much an item weighs, at least 1
use Rattle.std.proofs.Common.{◌≡◌, ℕ, ◌+◌, ◌<◌, ◌≤◌, List, [], ◌∷◌, ◌++◌, length, sym, refl, ap, ◌∙◌, arith}
use mathlib.Core.Option.{Option, some}
use Rattle.hol.specs.Base.{option}
use Rattle.hol.proofs.Tools.{some_same}
use Rattle.lent.specs.Piles.{onto}
use Rattle.walk.specs.Standing.{Stand, done, more}

-- one item after the other
abbrev pub run : {I S : Type 0} → (I → S → S) → List I → S → S
run act [] s = s
run act (i ∷ is) s = run act is (act i s)

abbrev pub weigh : {I : Type 0} → (I → ℕ) → List I → ℕ
weigh size [] = 0
weigh size (i ∷ is) = size i + weigh size is

-- the weight of what words stand for, 0 for those that stand for nothing
abbrev pub load : {I : Type 0} → (ℕ → Option I) → (I → ℕ) → List ℕ → ℕ
load at size [] = 0
load at size (n ∷ ns) = option (at n) 0 size + load at size ns

-- From the state s, going through what the words stand for ends in the goal. What was used and what is to come weigh no more than
-- the bound.
pub record Pending {I S : Type 0} (at : ℕ → Option I) (act : I → S → S) (size : I → ℕ) (goal : S) (bound : ℕ) (ns : List ℕ)
    (s : S) (used : ℕ) : Type 0 where
  pub items : List I
  pub stand : Stand at ns items
  pub ends : run act items s ≡ goal
  pub fits : used + weigh size items ≤ bound

pub stand_append : {I : Type 0} {at : ℕ → Option I} {ns ms : List ℕ} {is js : List I} → Stand at ns is → Stand at ms js
    → Stand at (ns ++ ms) (is ++ js)
stand_append done k = k
stand_append (more e h) k = more e (stand_append h k)

pub stand_load : {I : Type 0} {at : ℕ → Option I} (size : I → ℕ) {ns : List ℕ} {is : List I} → Stand at ns is
    → load at size ns ≡ weigh size is
stand_load size done = refl
stand_load size (more {i = i} e h) = rw (e, stand_load size h)

pub stand_length : {I : Type 0} {at : ℕ → Option I} (size : I → ℕ) → ((i : I) → 0 < size i) → {ns : List ℕ} {is : List I}
    → Stand at ns is → length ns ≤ weigh size is
stand_length size pos done = omega arith
stand_length size pos (more {i = i} e h) = omega (arith, pos i, stand_length size pos h)

-- what stood for an item stands for it
pub stand_kept : {I : Type 0} {at to : ℕ → Option I} → ((n : ℕ) (i : I) → at n ≡ some i → to n ≡ some i)
    → {ns : List ℕ} {is : List I} → Stand at ns is → Stand to ns is
stand_kept k done = done
stand_kept k (more {n = n} {i = i} e h) = more (k n i e) (stand_kept k h)

pub run-append : {I S : Type 0} (act : I → S → S) (is js : List I) (s : S) → run act (is ++ js) s ≡ run act js (run act is s)
run-append act [] js s = refl
run-append act (i ∷ is) js s = run-append act is js (act i s)

pub weigh-append : {I : Type 0} (size : I → ℕ) (is js : List I) → weigh size (is ++ js) ≡ weigh size is + weigh size js
weigh-append size [] js = omega arith
weigh-append size (i ∷ is) js = omega (arith, weigh-append size is js)

-- What a turn does to the newest item i, in the state s: the words ms are pushed, the last of them newest, for the items js.
pub record Turn {I S : Type 0} (at : ℕ → Option I) (act : I → S → S) (size : I → ℕ) (i : I) (ms : List ℕ) (s t : S)
    (used spent : ℕ) : Type 0 where
  pub items : List I
  pub stand : {ns : List ℕ} {is : List I} → Stand at ns is → Stand at (onto ms ns) (items ++ is)
  pub does : act i s ≡ run act items t
  pub rises : used ≤ spent
  pub weighs : spent + weigh size items < used + size i

-- an item that does nothing
skipped : {I S : Type 0} {at : ℕ → Option I} {act : I → S → S} {size : I → ℕ} {i : I} {s : S} {used : ℕ} → act i s ≡ s
    → 0 < size i → Turn at act size i [] s s used used
skipped d l = record { items = []; stand = λ h. h; does = d; rises = omega arith; weighs = omega arith }

pub onto-length : (ms ns : List ℕ) → length (onto ms ns) ≡ length ms + length ns
onto-length [] ns = omega arith
onto-length (m ∷ ms) ns = omega (arith, onto-length ms (m ∷ ns))

module _ {I S : Type 0} {at : ℕ → Option I} {act : I → S → S} {size : I → ℕ} {goal : S} {bound : ℕ} where
  -- one item alone
  pub begin : {n : ℕ} {ws : List ℕ} → ws ≡ n ∷ [] → (i : I) → at n ≡ some i → (s : S) → act i s ≡ goal → (used : ℕ)
      → used + size i ≤ bound
      → Pending at act size goal bound ws s used
  begin q i e s h used l = rw q (record { items = i ∷ []; stand = more e done; ends = h; fits = omega arith })

  -- nothing is left
  pub ended : {ws : List ℕ} {s : S} {used : ℕ} → Pending at act size goal bound ws s used → ws ≡ [] → s ≡ goal
  ended {s = s} p q = of (rw q at p.stand) p.ends
    where
      of : {is : List I} → Stand at [] is → run act is s ≡ goal → s ≡ goal
      of done r = r

  -- n is the newest word, and ns are the others
  module _ {ws ns : List ℕ} {n : ℕ} {s : S} {used : ℕ} (p : Pending at act size goal bound ws s used) (q : ws ≡ n ∷ ns) where
    -- it stands for an item
    pub newest : (i : I) × (at n ≡ some i)
    newest = of (rw q at p.stand)
      where
        of : {is : List I} → Stand at (n ∷ ns) is → (i : I) × (at n ≡ some i)
        of (more {i = i} e h) = (i, e)

    module _ (i : I) (e : at n ≡ some i) where
      pub others : (is : List I) × Stand at ns is × (run act is (act i s) ≡ goal) × (used + (size i + weigh size is) ≤ bound)
      others = of (rw q at p.stand) p.ends p.fits
        where
          of : {js : List I} → Stand at (n ∷ ns) js → run act js s ≡ goal → used + weigh size js ≤ bound
              → (is : List I) × Stand at ns is × (run act is (act i s) ≡ goal) × (used + (size i + weigh size is) ≤ bound)
          of (more {i = j} {is = is} f h) r l = let k = some_same (sym f ∙ e) in (is, h, rw k at r, rw k at l)

      -- it decides, whatever the others are
      pub decides : (t : S) → act i s ≡ t → ((is : List I) → run act is t ≡ t) → t ≡ goal
      decides t d k = let (is, h, r, l) = others in sym (k is) ∙ (ap (run act is) (sym d) ∙ r)

      -- it weighs
      pub room_for : ((j : I) → 0 < size j) → used + (size i + length ns) ≤ bound
      room_for pos = let (is, h, r, l) = others in omega (arith, stand_length size pos h)

      -- a turn
      module _ {ms : List ℕ} {t : S} {spent : ℕ} (u : Turn at act size i ms s t used spent) where
        pub turned : {vs : List ℕ} → vs ≡ onto ms ns → Pending at act size goal bound vs t spent
        turned b =
            let (is, h, r, l) = others in
            let k = u.weighs in
            rw b (record {
              items = u.items ++ is;
              stand = u.stand h;
              ends = run-append act u.items is t ∙ (ap (run act is) (sym u.does) ∙ r);
              fits = omega (arith, weigh-append size u.items is);
            })

        -- the weight of what is to come falls
        pub falls : {vs : List ℕ} → vs ≡ onto ms ns → load at size vs < load at size ws
        falls b =
            let (is, h, r, l) = others in
            let k = u.rises in
            let w = u.weighs in
            let d = stand_load size (u.stand h) in
            let f = stand_load size (more e h) in
            rw (b, q) (omega (arith, weigh-append size u.items is))

        -- the words of what is to come are no more than the bound
        pub words_fit : ((j : I) → 0 < size j) → spent + (length ns + length ms) ≤ bound
        words_fit pos =
            let (is, h, r, l) = others in
            let w = u.weighs in
            let d = stand_length size pos (u.stand h) in
            omega (arith, weigh-append size u.items is, onto-length ms ns)

-- in another store that keeps what this one has
module _ {I S : Type 0} {at to : ℕ → Option I} (k : (n : ℕ) (i : I) → at n ≡ some i → to n ≡ some i) {act : I → S → S}
    {size : I → ℕ} {goal : S} {bound : ℕ} where
  pub kept : {ws : List ℕ} {s : S} {used : ℕ} → Pending at act size goal bound ws s used
      → Pending to act size goal bound ws s used
  kept p = record { items = p.items; stand = stand_kept k p.stand; ends = p.ends; fits = p.fits }

  pub kept-load : {ws : List ℕ} {s : S} {used : ℕ} → Pending at act size goal bound ws s used → load to size ws ≡ load at size ws
  kept-load p = stand_load size (stand_kept k p.stand) ∙ sym (stand_load size p.stand)

  -- the newest item does nothing
  module _ {ws ns : List ℕ} {n : ℕ} {s : S} {used : ℕ} (p : Pending at act size goal bound ws s used) (q : ws ≡ n ∷ ns) (i : I)
      (e : at n ≡ some i) (d : act i s ≡ s) (l : 0 < size i) where
    pub skip_turned : Pending to act size goal bound ns s used
    skip_turned = kept (turned p q i e (skipped d l) refl)

    pub skip_falls : load to size ns < load at size ws
    skip_falls = rw (kept-load (turned p q i e (skipped d l) refl)) (falls p q i e (skipped d l) refl)
