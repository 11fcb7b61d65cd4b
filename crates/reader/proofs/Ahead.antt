-- What the tokens of a text are, by its first byte.
use Rattle.std.proofs.Common.{◌≡◌, ℕ, suc, ◌+◌, ◌-◌, ◌<◌, ◌≤◌, Bool, true, false, not, cond, eqb, List, [], ◌∷◌, ◌++◌, length, get_or, take, drop, sym, refl, ap, ◌∙◌, arith, append-nil, append_assoc, take-append-drop, drop-cons, length-take, length-drop, length-append}
use Rattle.std.proofs.Common.{ltb, add-one, one-add, Option, Some, None}
use Rattle.std.proofs.lemmas.Grind.{common_steps}
use Rattle.std.proofs.lemmas.List.{drop_all, take_all}
use Rattle.std.proofs.lemmas.Option.{cond_some}
use Rattle.std.specs.List.{prefix_len, position_or_len}
use Rattle.hol.specs.Text.{opens, closes, word, gap, in_word, comment, turn, in_words, tokens}
use Rattle.reader.specs.Next.{kind_of, EndsWith, Begins, Stops, CommentTo}
use Rattle.reader.specs.declared.kind.Kind.{Kind}
use Rattle.reader.specs.declared.kind.Kind.TheVariants.{Blank, Comment, Opening, Closing, Letter}
use Rattle.reader.proofs.Lexing.{afresh_by, is_letter, afresh-kind, in_words_kind}

-- THE LAST BYTES OF A TEXT

pub ends_drop : (n : ℕ) (t : List ℕ) → EndsWith t (drop n t)
ends_drop n t = (take n t, sym (take-append-drop n t))

pub ends_same : (t : List ℕ) → EndsWith t t
ends_same t = ([], refl)

pub ends_on : (t r s : List ℕ) → EndsWith t r → EndsWith r s → EndsWith t s
ends_on t r s (xs, e) (ys, i) = (xs ++ ys, rw (e, i, append_assoc))

pub ends_shorter : (t r : List ℕ) → EndsWith t r → length r ≤ length t
ends_shorter t r (xs, e) = omega (arith, ap (λ ys. length ys) e, length-append xs r)

-- THE FIRST BYTE

-- the bytes behind the first
abbrev pub later : List ℕ → List ℕ
later t = take (length t - 1) (drop 1 t)

module _ (t : List ℕ) (h : 1 ≤ length t) where
  cut : t ≡ get_or t 0 0 ∷ later t
  cut =
      let short : length (drop 1 t) ≤ length t - 1 = omega (arith, length-drop 1 t) in
      rw (take_all (length t - 1) (drop 1 t) short) (drop-cons t 0 0 h)

  pub later_ends : EndsWith t (later t)
  later_ends = (get_or t 0 0 ∷ [], cut)

  pub later_shorter : length (later t) + 1 ≡ length t
  later_shorter = omega (arith, length-take (length t - 1) (drop 1 t), length-drop 1 t)

  pub at_blank : kind_of (get_or t 0 0) ≡ Blank → tokens gap t ≡ tokens gap (later t)
  at_blank k = ap (λ cs. tokens gap cs) cut ∙ rw (afresh-kind, k)

  pub at_comment : kind_of (get_or t 0 0) ≡ Comment → tokens gap t ≡ tokens comment (later t)
  at_comment k = ap (λ cs. tokens gap cs) cut ∙ rw (afresh-kind, k)

  pub at_opening : kind_of (get_or t 0 0) ≡ Opening → tokens gap t ≡ opens ∷ tokens gap (later t)
  at_opening k = ap (λ cs. tokens gap cs) cut ∙ rw (afresh-kind, k)

  pub at_closing : kind_of (get_or t 0 0) ≡ Closing → tokens gap t ≡ closes ∷ tokens gap (later t)
  at_closing k = ap (λ cs. tokens gap cs) cut ∙ rw (afresh-kind, k)

begins_left : (k : Kind) → (k ≡ Blank → ⊥) → (k ≡ Comment → ⊥) → Begins k
begins_left Blank b c = b refl
begins_left Comment b c = c refl
begins_left Opening b c = tt
begins_left Closing b c = tt
begins_left Letter b c = tt

pub stops_left : (t : List ℕ) → 1 ≤ length t → (kind_of (get_or t 0 0) ≡ Blank → ⊥) → (kind_of (get_or t 0 0) ≡ Comment → ⊥)
    → Stops t
stops_left [] h b c = tt
stops_left (x ∷ xs) h b c = begins_left (kind_of x) b c

pub stops_end : (t : List ℕ) → length t < 1 → Stops t
stops_end [] h = tt
stops_end (x ∷ xs) h = absurd (omega arith)

-- COMMENTS

abbrev pub feeds : ℕ → Bool
feeds c = eqb c 10

-- a comment ends behind the first line feed, or with the text
comment_behind : (t : List ℕ) → tokens comment t ≡ tokens gap (drop (suc (position_or_len feeds t)) t)
comment_behind [] = refl
comment_behind (c ∷ cs) = by (comment_behind cs) (eqb c 10)
  where
    n : ℕ
    n = position_or_len feeds cs

    by : tokens comment cs ≡ tokens gap (drop (suc n) cs) → (b : Bool)
        → (let u = cond b (turn [] gap) (turn [] comment) in u.out ++ tokens u.mode cs) ≡ tokens gap (drop (cond (not b) (1 + n) 0) cs)
    by e true = refl
    by e false = rw one-add e

-- where the first line feed is
abbrev FeedAt : List ℕ → Option ℕ → Type 0
FeedAt t o = cond (ltb (position_or_len feeds t) (length t)) (Some (position_or_len feeds t)) None ≡ o

pub comment_some : (t : List ℕ) (i : ℕ) → FeedAt t (Some i) → CommentTo t (take (length t - (i + 1)) (drop (i + 1) t))
comment_some t i e =
    let at : position_or_len feeds t ≡ i = (cond_some (ltb (position_or_len feeds t) (length t)) _ _ e).1 in
    let short : length (drop (i + 1) t) ≤ length t - (i + 1) = omega (arith, length-drop (i + 1) t) in
    rw (take_all (length t - (i + 1)) (drop (i + 1) t) short)
    (record { ahead = rw (add-one, ← at) (comment_behind t); ends = ends_drop (i + 1) t })

pub comment_none : (t : List ℕ) → FeedAt t None → CommentTo t []
comment_none t e =
    let far : length t ≤ position_or_len feeds t = grind (arith, common_steps) in
    record { ahead = comment_behind t ∙ rw (drop_all (suc (position_or_len feeds t)) t (omega arith)); ends = (t, sym (append-nil t)) }

-- WORDS

-- what a byte that is no letter does behind a word is what it does without, behind that word
word_first : (k : Kind) (w : List ℕ) (c : ℕ) (cs : List ℕ) → is_letter k ≡ false →
    (let u = afresh_by k (word w ∷ []) c in u.out ++ tokens u.mode cs)
    ≡ word w ∷ (let u = afresh_by k [] c in u.out ++ tokens u.mode cs)
word_first Blank w c cs e = refl
word_first Comment w c cs e = refl
word_first Opening w c cs e = refl
word_first Closing w c cs e = refl
word_first Letter w c cs e = refl

-- a word goes on up to the first byte that is no letter
words_behind : (w t : List ℕ)
    → tokens (in_word w) t ≡ word (w ++ take (prefix_len in_words t) t) ∷ tokens gap (drop (prefix_len in_words t) t)
words_behind w [] = rw append-nil refl
words_behind w (c ∷ cs) = by (words_behind (w ++ (c ∷ [])) cs) (is_letter (kind_of c)) refl
  where
    n : ℕ
    n = prefix_len in_words cs

    by : tokens (in_word (w ++ (c ∷ []))) cs ≡ word ((w ++ (c ∷ [])) ++ take n cs) ∷ tokens gap (drop n cs)
        → (b : Bool) → is_letter (kind_of c) ≡ b → tokens (in_word w) (c ∷ cs)
        ≡ word (w ++ take (prefix_len in_words (c ∷ cs)) (c ∷ cs)) ∷ tokens gap (drop (prefix_len in_words (c ∷ cs)) (c ∷ cs))
    by h true e = rw (in_words_kind, e, one-add) (rw append_assoc at h)
    by h false e = simp (in_words_kind, e, append-nil, afresh-kind) (word_first (kind_of c) w c cs e)

pub word_behind : (t : List ℕ) → 1 ≤ length t → kind_of (get_or t 0 0) ≡ Letter
    → tokens gap t ≡ word (take (prefix_len in_words t) t) ∷ tokens gap (drop (prefix_len in_words t) t)
word_behind [] h k = absurd (omega arith)
word_behind (c ∷ cs) h k = rw (afresh-kind, in_words_kind, k, one-add) (words_behind (c ∷ []) cs)

-- a word has its first letter
pub word_longer : (t : List ℕ) → 1 ≤ length t → kind_of (get_or t 0 0) ≡ Letter → 1 ≤ prefix_len in_words t
word_longer [] h k = absurd (omega arith)
word_longer (c ∷ cs) h k = rw (in_words_kind, k) (omega arith)
