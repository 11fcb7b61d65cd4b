-- What a byte of each kind does to a reader of tokens.
use Rattle.std.proofs.Common.{◌≡◌, ℕ, Bool, true, false, cond, not, ◌||◌, eqb, List, [], ◌∷◌, ◌++◌, refl}
use Rattle.hol.specs.Text.{Token, opens, closes, gap, in_word, comment, Turn, turn, afresh, is_blank, in_words}
use Rattle.reader.specs.Next.{kind_of}
use Rattle.reader.specs.declared.kind.Kind.{Kind}
use Rattle.reader.specs.declared.kind.Kind.TheVariants.{Blank, Comment, Opening, Closing, Letter}

-- a byte that continues no word and no comment, by its kind
abbrev pub afresh_by : Kind → List Token → ℕ → Turn
afresh_by Blank o c = turn o gap
afresh_by Comment o c = turn o comment
afresh_by Opening o c = turn (o ++ (opens ∷ [])) gap
afresh_by Closing o c = turn (o ++ (closes ∷ [])) gap
afresh_by Letter o c = turn o (in_word (c ∷ []))

abbrev pub is_letter : Kind → Bool
is_letter Blank = false
is_letter Comment = false
is_letter Opening = false
is_letter Closing = false
is_letter Letter = true

pub afresh-kind : (o : List Token) (c : ℕ) → afresh o c ≡ afresh_by (kind_of c) o c
afresh-kind o c = by (is_blank c) (eqb c 59) (eqb c 40) (eqb c 41)
  where
    by : (b s p q : Bool) →
        cond b (turn o gap) (cond s (turn o comment) (cond p (turn (o ++ (opens ∷ [])) gap)
        (cond q (turn (o ++ (closes ∷ [])) gap) (turn o (in_word (c ∷ []))))))
        ≡ afresh_by (cond b Blank (cond s Comment (cond p Opening (cond q Closing Letter)))) o c
    by true s p q = refl
    by false true p q = refl
    by false false true q = refl
    by false false false true = refl
    by false false false false = refl

pub in_words_kind : (c : ℕ) → in_words c ≡ is_letter (kind_of c)
in_words_kind c = by (is_blank c) (eqb c 59) (eqb c 40) (eqb c 41)
  where
    by : (b s p q : Bool) →
        not (b || (s || (p || q))) ≡ is_letter (cond b Blank (cond s Comment (cond p Opening (cond q Closing Letter))))
    by true s p q = refl
    by false true p q = refl
    by false false true q = refl
    by false false false true = refl
    by false false false false = refl
