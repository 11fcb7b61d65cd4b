-- A reader of tokens that keeps how many brackets are open and how many S-expressions began outside of all.
use Rattle.std.proofs.Common.{◌≡◌, ℕ, zero, suc, ◌+◌, ◌-◌, ◌<◌, ◌≤◌, List, [], ◌∷◌, ◌++◌, length, get_or, drop, sym, refl, ◌∙◌, ⊎_elim, add-one, arith, length-append}
use mathlib.Core.Option.{some}
use Rattle.std.proofs.Math.Seq.{drop-append_seam}
use Rattle.std.proofs.str.Laws.{order}
use Rattle.hol.specs.Text.{Token, opens, closes, word, gap, tokens, Sexp, Sexps, nil, cons, count_sexps, sexps}
use Rattle.reader.specs.Flat.{flats}
use Rattle.reader.specs.Next.{kind_of, stands, stream, EndsWith, Begins, Stops, SkipTo, Gives}
use Rattle.reader.specs.Lines.{deeper, behind, StartSays}
use Rattle.reader.specs.declared.tokens.Token.{Token as Read}
use Rattle.reader.specs.declared.tokens.Tokens.{Tokens}
use Rattle.reader.proofs.Ahead.{ends_same, ends_on}
use Rattle.reader.proofs.Streams.{inside-closes, inside-word, inside-opens, inside_empty}
use Rattle.reader.proofs.Streams.{outside_empty, outside_closes, outside_word, outside_opens}
use Rattle.reader.proofs.Trees.{flats_from_sexps}

-- what is left in each open bracket, the innermost first, and then us outside of all
abbrev nested : List Sexps → Sexps → List Token
nested [] us = flats us
nested (vs ∷ vss) us = flats vs ++ (closes ∷ nested vss us)

-- the stream ps stands in d brackets, with us left outside of all
pub record Nest (ps : List Token) (d : ℕ) (us : Sexps) : Type 0 where
  pub inner : List Sexps
  pub deep : length inner ≡ d
  pub is : ps ≡ nested inner us

-- BEHIND THE FIRST n

behind_more : (n : ℕ) (ts us : Sexps) (u : Sexp) → behind n ts ≡ cons u us → behind (suc n) ts ≡ us
behind_more zero ts us u e = rw e
behind_more (suc n) nil us u e = absurd (let z : ◌≡◌ {A = ℕ} 0 1 = cc in omega arith)
behind_more (suc n) (cons t ts) us u e = behind_more n ts us u e

behind-all : (n : ℕ) (ts : Sexps) → behind n ts ≡ nil → count_sexps ts ≤ n
behind-all zero ts e = rw e (omega arith)
behind-all (suc n) nil e = omega arith
behind-all (suc n) (cons t ts) e = omega (arith, behind-all n ts e)

-- ONE TOKEN

-- inside of a bracket
step_in : (p : Token) (qs : List Token) (vs : Sexps) (vss : List Sexps) (us : Sexps)
    → p ∷ qs ≡ nested (vs ∷ vss) us → Nest qs (deeper p (suc (length vss))) us
step_in opens qs vs vss us e =
    let r = inside-opens vs (nested vss us) qs (sym e) in
    record { inner = r.0 ∷ r.1 ∷ vss; deep = omega arith; is = r.3 }
step_in closes qs vs vss us e =
    let r = inside-closes vs (nested vss us) qs (sym e) in
    record { inner = vss; deep = omega arith; is = r.1 }
step_in (word w) qs vs vss us e =
    let r = inside-word vs (nested vss us) qs w (sym e) in
    record { inner = r.0 ∷ vss; deep = refl; is = r.2 }

-- outside of all: one S-expression of us begins
step-out : (p : Token) (qs : List Token) (us : Sexps) → p ∷ qs ≡ flats us
    → (v : Sexp) × (vs : Sexps) × (us ≡ cons v vs) × Nest qs (deeper p 0) vs
step-out opens qs us e =
    let r = outside_opens us qs (sym e) in
    (_, r.1, r.2, record { inner = r.0 ∷ []; deep = omega arith; is = r.3 })
step-out closes qs us e = absurd (outside_closes us qs (sym e))
step-out (word w) qs us e =
    let r = outside_word us qs w (sym e) in
    (_, r.0, r.1, record { inner = []; deep = refl; is = r.2 })

pub within_bracket : (p : Token) (qs : List Token) (d : ℕ) (us : Sexps) → Nest (p ∷ qs) d us → (d ≡ 0 → ⊥) → Nest qs (deeper p d) us
within_bracket p qs d us n h = go n.inner n.deep n.is
  where
    go : (vss : List Sexps) → length vss ≡ d → p ∷ qs ≡ nested vss us → Nest qs (deeper p d) us
    go [] l e = absurd (h (sym l))
    go (vs ∷ vss) l e = rw l at (step_in p qs vs vss us e)

pub outside_brackets : (p : Token) (qs : List Token) (d k : ℕ) (ts : Sexps) → Nest (p ∷ qs) d (behind k ts) → d ≡ 0
    → Nest qs (deeper p d) (behind (k + 1) ts)
outside_brackets p qs d k ts n z = go n.inner n.deep n.is
  where
    go : (vss : List Sexps) → length vss ≡ d → p ∷ qs ≡ nested vss (behind k ts) → Nest qs (deeper p d) (behind (k + 1) ts)
    go [] l e =
        let r = step-out p qs (behind k ts) e in
        rw (z, add-one, behind_more k ts r.1 r.0 r.2) r.3
    go (vs ∷ vss) l e = absurd (omega arith)

-- outside of all brackets the stream is that of the trees left
pub outside_is : (ps : List Token) (d : ℕ) (us : Sexps) → Nest ps d us → d ≡ 0 → ps ≡ flats us
outside_is ps d us n z = go n.inner n.deep n.is
  where
    go : (vss : List Sexps) → length vss ≡ d → ps ≡ nested vss us → ps ≡ flats us
    go [] l e = e
    go (vs ∷ vss) l e = absurd (omega arith)

-- where nothing is ahead, all S-expressions began
pub all-begun : (ps : List Token) (d k : ℕ) (ts : Sexps) → Nest ps d (behind k ts) → ps ≡ [] → count_sexps ts ≤ k
all-begun ps d k ts n none = go n.inner n.is
  where
    go : (vss : List Sexps) → ps ≡ nested vss (behind k ts) → count_sexps ts ≤ k
    go [] e = behind-all k ts (outside_empty (behind k ts) (sym e ∙ none))
    go (vs ∷ vss) e = absurd (inside_empty vs (nested vss (behind k ts)) (sym e ∙ none))

-- THE LOOP

empty : (r : List ℕ) → length r < 1 → r ≡ []
empty [] h = refl
empty (c ∷ cs) h = absurd (omega arith)

-- behind the tokens before s, d brackets are open and k S-expressions began, fewer than n
pub record Counting (t : List ℕ) (n : ℕ) (s : Tokens) (d k : ℕ) : Type 0 where
  pub ends : EndsWith t s.rest.now
  pub shallow : d + length s.rest.now ≤ length t
  pub few : k + length s.rest.now ≤ length t
  pub below : 1 ≤ n → k < n
  pub nest : (ts : Sexps) → sexps t ≡ some ts → Nest (stream s) d (behind k ts)

pub counting_start : (t : List ℕ) (n : ℕ) (s : Tokens) → s.rest.now ≡ t → Counting t n s 0 0
counting_start t n s e = record {
  ends = rw e (ends_same t);
  shallow = rw e (omega arith);
  few = rw e (omega arith);
  below = λ h. omega arith;
  nest = λ ts r. record { inner = []; deep = refl; is = rw e (flats_from_sexps t ts r) };
}

deeper_by_one : (p : Token) (d : ℕ) → deeper p d ≤ d + 1
deeper_by_one opens d = omega arith
deeper_by_one closes d = omega arith
deeper_by_one (word w) d = omega arith

first_of : (xs : List ℕ) (c : ℕ) (cs : List ℕ) → get_or (xs ++ (c ∷ cs)) (length xs) 0 ≡ c
first_of [] c cs = refl
first_of (x ∷ xs) c cs = first_of xs c cs

-- where the last bytes r of t begin, as far as they go
begins_at : (t r : List ℕ) → EndsWith t r → Stops r → 1 ≤ length r
    → (let q = length t - length r in (drop q t ≡ r) × (q < length t) × Begins (kind_of (get_or t q 0)))
begins_at t [] (xs, e) b h = absurd (omega arith)
begins_at t (c ∷ cs) (xs, e) b h =
    let q : length t - length (c ∷ cs) ≡ length xs = rw e (omega (arith, length-append xs (c ∷ cs))) in
    rw (q, e) (drop-append_seam xs (c ∷ cs), omega (arith, length-append xs (c ∷ cs)), rw first_of b)

module _ (t : List ℕ) (n : ℕ) (s : Tokens) (d k : ℕ) (now : Counting t n s d k) where
  module _ (p : Read) (e : Tokens) (g : Gives s p e) where
    pub counting_out : d ≡ 0 → (k + 1 ≡ n → ⊥) → Counting t n e (deeper (stands p) d) (k + 1)
    counting_out z less = record {
      ends = ends_on _ _ _ now.ends g.ends;
      shallow = omega (arith, deeper_by_one (stands p) d, now.shallow, g.shorter);
      few = omega (arith, now.few, g.shorter);
      below = λ h. omega (arith, now.below h, less);
      nest = λ ts r. outside_brackets (stands p) (stream e) d k ts (rw g.ahead at (now.nest ts r)) z;
    }

    pub counting_in : (d ≡ 0 → ⊥) → Counting t n e (deeper (stands p) d) k
    counting_in nested_in = record {
      ends = ends_on _ _ _ now.ends g.ends;
      shallow = omega (arith, deeper_by_one (stands p) d, now.shallow, g.shorter);
      few = omega (arith, now.few, g.shorter);
      below = now.below;
      nest = λ ts r. within_bracket (stands p) (stream e) d (behind k ts) (rw g.ahead at (now.nest ts r)) nested_in;
    }

  -- no token is ahead: there are fewer than n S-expressions
  pub none_left : (q : ℕ) → stream s ≡ [] → StartSays t n q
  none_left q over ts r first few = absurd (omega (arith, all-begun (stream s) d k ts (now.nest ts r) over, now.below first))

  -- the S-expression with the number n begins where the blanks and comments before the next token end
  pub starts_here : (r : List ℕ) → d ≡ 0 → k + 1 ≡ n → SkipTo s.rest.now r → StartSays t n (length t - length r)
  starts_here r z last to ts e first few =
      let here : tokens gap r ≡ flats (behind k ts) =
      sym to.ahead ∙ outside_is (stream s) d (behind k ts) (now.nest ts e) z in
      let some_left : 1 ≤ length r =
      ⊎_elim (λ h. let over : flats (behind k ts) ≡ [] = sym here ∙ rw (empty r h) in
      absurd (omega (arith, behind-all k ts (outside_empty (behind k ts) over))))
      (λ h. h)
      (order (length r) 1) in
      let place = begins_at t r (ends_on _ _ _ now.ends to.ends) to.stops some_left in
      record {
        ahead = let m : n - 1 ≡ k = omega arith in rw (m, place.0) here;
        within = place.1;
        begins = place.2;
      }
