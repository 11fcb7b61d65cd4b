-- What pushes and a cut do to the words of a stack, as lists.
use Rattle.std.proofs.Common.{◌≡◌, refl, sym, ap, ◌∙◌, arith, take-take, ℕ, ◌+◌, ◌-◌, ◌<◌, ◌≤◌, List, [], ◌∷◌, ◌++◌, length, drop, take, reverse}
use Rattle.std.proofs.lemmas.List.{append_assoc, reverse-append, length-reverse, length-take-le, length-drop, take-append-drop}
use Rattle.std.proofs.lemmas.Slice.{take-put_mid, take-put_mid_below}
use Rattle.std.proofs.Math.Seq.{drop-append_seam}
use borrow.Rule.Slice.PartMut.{put_mid, mid_of, same_len_mid}
use Rattle.lent.specs.Piles.{Pile, pile, pile_of, free_words, spare, cut, onto}
use Rattle.lent.specs.declared.stack.Stack.{Stack}

onto-reverse : (ws h : List ℕ) → onto ws h ≡ reverse ws ++ h
onto-reverse [] h = refl
onto-reverse (w ∷ ws) h = onto-reverse ws (w ∷ h) ∙ (sym (append_assoc (reverse ws) (w ∷ []) h) ∙ ap (λ xs. xs ++ h) (sym (reverse-append (w ∷ []) ws)))

-- the words behind the first n become vs, and are on the stack
pub pushed : (ws vs : List ℕ) (n k r : ℕ) → n ≤ length ws → length vs ≡ k → n + k ≤ length ws
    → pile (put_mid n k ws vs) (n + k) r ≡ record { held = onto vs (reverse (take n ws)); capacity = length ws; name = r }
pushed ws vs n k r h l m =
    let e : n + k ≡ n + length vs = rw l refl in
    let held = ap reverse (take-put_mid n k ws vs (n + k) e h) ∙ (reverse-append (take n ws) vs ∙ sym (onto-reverse vs (reverse (take n ws)))) in
    let fits : length vs ≡ length (mid_of n k ws) = omega (arith, length-take-le k (drop n ws), length-drop n ws) in
    rw (held, same_len_mid n k ws vs fits) refl

-- the first n of those on the stack
pub cut_to : (ws : List ℕ) (n m r : ℕ) → n ≤ m → m ≤ length ws → cut n (pile ws m r) ≡ pile ws n r
cut_to ws n m r h l =
    let xs = take n ws in
    let ys = drop n (take m ws) in
    let split : reverse (take m ws) ≡ reverse ys ++ reverse xs
    = ap reverse (sym (take-append-drop n (take m ws)) ∙ ap (λ zs. zs ++ ys) (take-take n m ws h)) ∙ reverse-append xs ys in
    let long : length (reverse (take m ws)) - n ≡ length (reverse ys)
    = rw (length-reverse (take m ws), length-reverse ys, length-drop n (take m ws), length-take-le m ws l) refl in
    let held : drop (length (reverse (take m ws)) - n) (reverse (take m ws)) ≡ reverse xs
    = rw long (ap (drop (length (reverse ys))) split ∙ drop-append_seam (reverse ys) (reverse xs)) in
    rw held refl

-- the words of which n are on a stack: how many are, and how many are free
pub pile-length : (ws : List ℕ) (n : ℕ) → n ≤ length ws → length (reverse (take n ws)) ≡ n
pile-length ws n h = length-reverse (take n ws) ∙ length-take-le n ws h

pub pile-spare : (ws : List ℕ) (n : ℕ) {r : ℕ} (p : Pile) → n ≤ length ws → pile ws n r ≡ p → length (take (length ws - n) (drop n ws)) ≡ spare p
pile-spare ws n p h e =
    let l = length-drop n ws in
    rw (← e, length-take-le (length ws - n) (drop n ws) (omega (arith, l)), pile-length ws n h) refl

-- what is on a stack of n words stays where the words behind them are written
pub pile_lent : (ws vs : List ℕ) (n k : ℕ) {r : ℕ} (p : Pile) → n ≤ length ws → pile ws n r ≡ p → reverse (take n (put_mid n k ws vs)) ≡ p.held
pile_lent ws vs n k p h e = ap reverse (take-put_mid_below n k ws vs n (omega arith) h) ∙ ap (λ o. o.held) e

-- and it can hold as much
pub kept_below : (ws vs : List ℕ) (n : ℕ) {r : ℕ} (p : Pile) → n ≤ length ws → pile ws n r ≡ p → length vs ≡ length (mid_of n (length ws - n) ws)
    → pile (put_mid n (length ws - n) ws vs) n r ≡ p
kept_below ws vs n {r} p h e l =
    let k = length ws - n in
    rw (ap reverse (take-put_mid_below n k ws vs n (omega arith) h), same_len_mid n k ws vs l) e

-- THE SAME OF A STACK

module _ (s : Stack) where
  -- how many words are on it, and how many are free
  pub held-length : length (pile_of s).held ≡ s.len
  unfolding pile_of
  held-length = pile-length s.words.now s.len s.fits

  pub stack-spare : length (take (length s.words.now - s.len) (drop s.len s.words.now)) ≡ spare (pile_of s)
  unfolding pile_of
  stack-spare = pile-spare s.words.now s.len (pile_of s) s.fits refl

  pub free_length : length (free_words s) ≡ spare (pile_of s)
  unfolding pile_of
  free_length = rw (length-drop s.len s.words.now, pile-length s.words.now s.len s.fits) refl

  pub whole : length s.words.now ≡ (pile_of s).capacity
  unfolding pile_of
  whole = refl

  -- t is s after words were written where s has free ones
  pub stack_lent : (t : Stack) (vs : List ℕ) → t.words.now ≡ put_mid s.len (length s.words.now - s.len) s.words.now vs → t.len ≡ s.len
      → t.words.ghost_name ≡ s.words.ghost_name → length vs ≡ length (mid_of s.len (length s.words.now - s.len) s.words.now)
      → pile_of t ≡ pile_of s
  unfolding pile_of
  stack_lent t vs e l n k = rw (e, l, n) (kept_below s.words.now vs s.len (pile_of s) s.fits refl k)

-- stacks of the same words
pub same_words : (s t : Stack) → (pile_of t).name ≡ (pile_of s).name → t.words.ghost_name ≡ s.words.ghost_name
unfolding pile_of
same_words s t e = e

-- what has no place on a stack has none on one on which the same lies
pub no_place : {p q : Pile} (n : ℕ) → q ≡ p → q.capacity < length q.held + n → p.capacity < length p.held + n
no_place n k l = rw k at l
