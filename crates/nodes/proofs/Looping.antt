-- The loop that compares: what holds at each turn, what falls with it, and what it says at its end.
use Rattle.std.proofs.Common.{◌≡◌, ℕ, ◌+◌, ◌*◌, ◌/◌, ◌^◌, ◌<◌, ◌≤◌, List, ◌∷◌, length, take, sym, refl, ap, ◌∙◌, subst, arith}
use native.Mathlib.Nat.{one-le-pow}
use Rattle.hol.specs.Base.{bind}
use Rattle.lent.specs.Piles.{Pile}
use Rattle.store.specs.State.{Keeps, Stays}
use Rattle.nodes.specs.declared.pair.Pair.{Pair}
use Rattle.nodes.specs.Comparing.{Same, OneLeft, TwoLeft}
use Rattle.nodes.specs.Items.{Item, as_word, as_type, as_types, as_term, as_terms, contents, Holds, Alike}
use Rattle.nodes.specs.Meaning.{items, held, state_in}
use Rattle.nodes.specs.Table.{rows, all_rows, room}
use Rattle.nodes.proofs.Pairs.{weight, two-smaller, one-smaller}
use Rattle.nodes.proofs.Readings.{item-held}
use Rattle.nodes.proofs.Rows.{rows-front, rows_kept}
use Rattle.nodes.proofs.Stepping.{Comparing}

-- ws are the words of the nodes, and the stack of pairs lies behind them
pub record Looping (ws : List ℕ) (m n : ℕ) (p : Pair) (pairs : Pile) : Type 0 where
  pub capacity : 2 * (length ws / 4) ≤ pairs.capacity
  pub comparing : Comparing (items (all_rows ws)) (length ws / 4) m n p pairs.held

-- what is still to be compared
abbrev pub work : Pair → Pile → ℕ
work p pairs = weight pairs.held + 3 ^ p.a

module _ {ws : List ℕ} {m n : ℕ} {p : Pair} {pairs : Pile} (l : Looping ws m n p pairs) where
  -- one pair is left of the pair at hand
  pub one_less : {q : Pair} → OneLeft (items (all_rows ws)) (length ws / 4) p q → work q pairs < work p pairs
  one_less {q} o = omega (arith, one-smaller q.a p.a o.smaller)

  -- two pairs are left of it
  pub two_less : {q r : Pair} (after : Pile) → TwoLeft (items (all_rows ws)) (length ws / 4) p q r → after.held ≡ q.b ∷ q.a ∷ pairs.held
      → work r after < work p pairs
  two_less {q} {r} after t held = let s = two-smaller q.a r.a p.a t.smaller.0 t.smaller.1 in rw held (omega arith)

  -- the pair at hand is done, and the last kept one is next
  pub back_less : {q : Pair} (after : Pile) → pairs.held ≡ q.b ∷ q.a ∷ after.held → work q after < work p pairs
  back_less after held = let pos : 1 ≤ 3 ^ p.a = one-le-pow p.a 3 (omega arith) in rw held (omega arith)

-- THE WORDS ws of the first u nodes in w: what is said of them is said of those nodes
module _ (w : List ℕ) (u : ℕ) {ws : List ℕ} (front : ws ≡ take (4 * u) w) (fits : 6 * u ≤ length w) where
  same_rows : all_rows ws ≡ rows w u
  same_rows = ap all_rows front ∙ rows-front w u (omega arith)

  pub equal_front : (m n : ℕ) → items (all_rows ws) m ≡ items (all_rows ws) n → items (rows w u) m ≡ items (rows w u) n
  equal_front m n e = rw same_rows at e

  pub same_front : (m n : ℕ) → Same (items (rows w u)) m n → Same (items (all_rows ws)) m n
  same_front m n s = subst (λ ds. Same (items ds) m n) (sym same_rows) s

-- AT THE END: what is said of two numbers
module _ (ws : List ℕ) (u m n : ℕ) where
  pub alike : items (rows ws u) m ≡ items (rows ws u) n → Alike (held ws u) m n
  alike e =
      record {
        word = ap (λ o. bind o as_word) e;
        typ = ap (λ o. bind o as_type) e;
        types = ap (λ o. bind o as_types) e;
        term = ap (λ o. bind o as_term) e;
        terms = ap (λ o. bind o as_terms) e;
      }

  pub same_held : (i : Item) → Holds (held ws u) m i → Holds (held ws u) n i → Same (items (rows ws u)) m n
  same_held i x y = record { item = i; left = item-held (items (rows ws u)) m i x; right = item-held (items (rows ws u)) n i y }

-- all nodes are as they were where only the words behind them were written
pub stays : (ws vs : List ℕ) (u : ℕ) → take (4 * u) vs ≡ take (4 * u) ws → length vs ≡ length ws → Stays (state_in ws u) (state_in vs u)
stays ws vs u kept e =
    let same : (k : ℕ) → k ≤ u → rows vs k ≡ rows ws k = rows_kept ws vs u kept in
    let keeps : Keeps (held ws u) (held vs u) =
    subst (λ ds. Keeps (held ws u) (contents (items ds))) (sym (same u (omega arith)))
    (record { word = λ _ _ e. e; typ = λ _ _ e. e; types = λ _ _ e. e; term = λ _ _ e. e; terms = λ _ _ e. e }) in
    let left : room vs u ≡ room ws u = cc e in
    record {
      grows = record {
        keeps = keeps;
        cost = omega (arith, left);
        count = omega arith;
        marks = λ k h. ap (λ ds. contents (items ds)) (same k h);
        lefts = λ k h. rw e refl;
      };
      left = left;
      count = refl;
    }
