-- A byte does to the depth and the count what its tokens do to the stack that they stand for.
use Rattle.std.proofs.Common.{◌≡◌, ℕ, suc, ◌-◌, Bool, true, false, cond, not, ◌||◌, eqb, List, [], ◌∷◌, ◌++◌, length, sym, refl, append_assoc, arith}
use mathlib.Core.Option.{Option}
use lib.Dec.{eqb-suc-zero}
use Rattle.hol.specs.Text.{Token, opens, closes, word, Mode as Place, gap, in_word, comment, Turn, turn, turns, is_blank}
use Rattle.hol.specs.Text.{Sexp, Sexps, nil, cons, atom, list, onto, parse}
use Rattle.reader.specs.Steps.{state, opened, closed, lettered, plain, after}
use Rattle.reader.specs.declared.state.Mode.{Mode}
use Rattle.reader.specs.declared.state.Mode.TheVariants.{Gap, InWord, Comment}
use Rattle.reader.specs.declared.state.Reader.{Reader}
use Rattle.reader.proofs.Stands.{counted, stands, Goes, Meets}

-- COUNTS: what one token does to them

-- between words and in a comment no word is pending
comment_counted : (us : Sexps) (uss : List Sexps) → counted gap us uss ≡ counted comment us uss
comment_counted us [] = refl
comment_counted us (vs ∷ uss) = refl

-- a pending word was counted when it began
word_counted : (w : List ℕ) (us : Sexps) (uss : List Sexps) → counted (in_word w) us uss ≡ counted gap (cons (atom w) us) uss
word_counted w us [] = omega arith
word_counted w us (vs ∷ uss) = refl

longer_counted : (w v : List ℕ) (us : Sexps) (uss : List Sexps) → counted (in_word w) us uss ≡ counted (in_word v) us uss
longer_counted w v us [] = refl
longer_counted w v us (vs ∷ uss) = refl

same-state : (m : Mode) (d e n k : ℕ) → d ≡ e → n ≡ k → state m d n ≡ state m e k
same-state m d e n k p q = cc

opened-stands : (m : Mode) (n : ℕ) (us : Sexps) (uss : List Sexps) → n ≡ counted gap us uss
    → opened (state m (length uss) n) ≡ stands gap nil (us ∷ uss)
opened-stands m n us [] e = same-state Gap _ _ _ _ (omega arith) (omega arith)
opened-stands m n us (vs ∷ uss) e = rw eqb-suc-zero (same-state Gap _ _ _ _ (omega arith) (omega arith))

begun-stands : (n : ℕ) (w : List ℕ) (us : Sexps) (uss : List Sexps) → n ≡ counted gap us uss
    → lettered (state Gap (length uss) n) ≡ stands (in_word w) us uss
begun-stands n w us [] e = same-state InWord _ _ _ _ (omega arith) (omega arith)
begun-stands n w us (vs ∷ uss) e = rw eqb-suc-zero (same-state InWord _ _ _ _ (omega arith) (omega arith))

closed-stands : (n : ℕ) (t : Sexp) (us vs : Sexps) (uss : List Sexps) → n ≡ counted gap us (vs ∷ uss)
    → state Gap (suc (length uss) - 1) n ≡ stands gap (cons t vs) uss
closed-stands n t us vs [] e = same-state Gap _ _ _ _ (omega arith) (omega arith)
closed-stands n t us vs (ws ∷ uss) e = same-state Gap _ _ _ _ (omega arith) (omega arith)

-- BYTES

-- one test decides on both sides
both : (P : Turn → Option Reader → Type 0) (b : Bool) (t u : Turn) (x y : Option Reader)
    → P t x → P u y → P (cond b t u) (cond b x y)
both P true t u x y p q = p
both P false t u x y p q = q

-- what `afresh` does with the byte c, with the turn t where it is a letter
abbrev by_byte : ℕ → List Token → Turn → Turn
by_byte c o t =
    cond (is_blank c) (turn o gap)
    (cond (eqb c 59) (turn o comment)
    (cond (eqb c 40) (turn (o ++ (opens ∷ [])) gap)
    (cond (eqb c 41) (turn (o ++ (closes ∷ [])) gap) t)))

-- whether a byte stands in words may be tested first or last
last_tested : (b c d e : Bool) (s t u v w x : Turn) →
    cond (not (b || (c || (d || e)))) s (cond b t (cond c u (cond d v (cond e w x)))) ≡ cond b t (cond c u (cond d v (cond e w s)))
last_tested true c d e s t u v w x = refl
last_tested false true d e s t u v w x = refl
last_tested false false true e s t u v w x = refl
last_tested false false false true s t u v w x = refl
last_tested false false false false s t u v w x = refl

-- A byte that is no letter: the tokens o, a word that ends here or nothing, lead from us to vs on the stack, and the reader has
-- counted what stands there then.
closes_meets : (o : List Token) (us vs : Sexps) (uss : List Sexps) (m : Mode) (n : ℕ)
    → ((ps : List Token) → parse (o ++ ps) (us ∷ uss) ≡ parse ps (vs ∷ uss)) → n ≡ counted gap vs uss
    → Meets (turn (o ++ (closes ∷ [])) gap) us uss (closed (state m (length uss) n))
closes_meets o us vs [] m n flush has = λ ps. rw append_assoc (flush (closes ∷ ps))
closes_meets o us vs (ws ∷ uss) m n flush has = rw eqb-suc-zero (record {
  top = cons (list (onto vs nil)) ws;
  below = uss;
  at = closed-stands n (list (onto vs nil)) vs ws uss has;
  same = λ ps. rw append_assoc (flush (closes ∷ ps));
})

module _
    (o : List Token) (us vs : Sexps) (uss : List Sexps) (m : Mode) (n : ℕ)
    (flush : (ps : List Token) → parse (o ++ ps) (us ∷ uss) ≡ parse ps (vs ∷ uss))
    (has : n ≡ counted gap vs uss)
  where
    blank_goes : Goes (turn o gap) us uss (state Gap (length uss) n)
    blank_goes = record { top = vs; below = uss; at = cc; same = flush }

    comment_goes : Goes (turn o comment) us uss (state Comment (length uss) n)
    comment_goes = record { top = vs; below = uss; at = cc (comment_counted vs uss); same = flush }

    opens_goes : Goes (turn (o ++ (opens ∷ [])) gap) us uss (opened (state m (length uss) n))
    opens_goes = record {
      top = nil;
      below = vs ∷ uss;
      at = opened-stands m n vs uss has;
      same = λ ps. rw append_assoc (flush (opens ∷ ps));
    }

    -- a byte that continues no comment, where a letter leads to the turn t
    plain_meets : (c : ℕ) (t : Turn) → Goes t us uss (lettered (state m (length uss) n))
        → Meets (by_byte c o t) us uss (plain (state m (length uss) n) c)
    plain_meets c t letter =
        let P : Turn → Option Reader → Type 0 = λ u x. Meets u us uss x in
        both P (is_blank c) _ _ _ _ blank_goes
        (both P (eqb c 59) _ _ _ _ comment_goes
        (both P (eqb c 40) _ _ _ _ opens_goes
        (both P (eqb c 41) _ _ _ _ (closes_meets o us vs uss m n flush has) letter)))

pub meets : (p : Place) (us : Sexps) (uss : List Sexps) (c : ℕ) → Meets (turns p c) us uss (after (stands p us uss) c)
meets gap us uss c =
    plain_meets [] us us uss Gap _ (λ ps. refl) refl c (turn [] (in_word (c ∷ [])))
    (record { top = us; below = uss; at = begun-stands _ (c ∷ []) us uss refl; same = λ ps. refl })
meets (in_word w) us uss c =
    let v = w ++ (c ∷ []) in
    rw last_tested
    (plain_meets (word w ∷ []) us (cons (atom w) us) uss InWord _ (λ ps. refl) (word_counted w us uss) c (turn [] (in_word v))
    (record { top = us; below = uss; at = same-state InWord _ _ _ _ refl (longer_counted w v us uss); same = λ ps. refl }))
meets comment us uss c =
    both (λ u x. Meets u us uss x) (eqb c 10) _ _ _ _
    (record { top = us; below = uss; at = same-state Gap _ _ _ _ refl (sym (comment_counted us uss)); same = λ ps. refl })
    (record { top = us; below = uss; at = refl; same = λ ps. refl })
