-- The token that begins where blanks and comments end is the next one of the stream.
use Rattle.std.proofs.Common.{◌≡◌, ℕ, ◌≤◌, List, [], ◌∷◌, length, get_or, take, drop, refl, ◌∙◌, arith, length-drop, Bor}
use Rattle.std.specs.List.{prefix_len}
use Rattle.hol.specs.Text.{in_words}
use Rattle.reader.specs.Next.{kind_of, Begins, Stops, SkipTo, Gives}
use Rattle.reader.specs.declared.tokens.Token.TheVariants.{Open, Close, Word}
use Rattle.reader.specs.declared.tokens.Tokens.{Tokens}
use Rattle.reader.specs.declared.kind.Kind.{Kind}
use Rattle.reader.specs.declared.kind.Kind.TheVariants.{Blank, Comment, Opening, Closing, Letter}
use Rattle.reader.proofs.Ahead.{later, ends_drop, ends_on, ends_shorter, later_ends, later_shorter}
use Rattle.reader.proofs.Ahead.{at_opening, at_closing, word_behind, word_longer}

-- what neither is a bracket nor is skipped begins a word
letter_left : (k : Kind) → Begins k → (k ≡ Opening → ⊥) → (k ≡ Closing → ⊥) → k ≡ Letter
letter_left Blank b o c = absurd b
letter_left Comment b o c = absurd b
letter_left Opening b o c = absurd (o refl)
letter_left Closing b o c = absurd (c refl)
letter_left Letter b o c = refl

begins : (t : List ℕ) → 1 ≤ length t → Stops t → Begins (kind_of (get_or t 0 0))
begins [] h b = absurd (omega arith)
begins (c ∷ cs) h b = b

module _ (s : Tokens) (t : List ℕ) (to : SkipTo s.rest.now t) (h : 1 ≤ length t) (e : Tokens) where
  pub gives_open : kind_of (get_or t 0 0) ≡ Opening → e.rest.now ≡ later t → Gives s Open e
  gives_open k is = record {
    ahead = to.ahead ∙ at_opening t h k ∙ rw is;
    ends = rw is (ends_on _ _ _ to.ends (later_ends t h));
    shorter = rw is (omega (arith, later_shorter t h, ends_shorter _ _ to.ends));
  }

  pub gives_close : kind_of (get_or t 0 0) ≡ Closing → e.rest.now ≡ later t → Gives s Close e
  gives_close k is = record {
    ahead = to.ahead ∙ at_closing t h k ∙ rw is;
    ends = rw is (ends_on _ _ _ to.ends (later_ends t h));
    shorter = rw is (omega (arith, later_shorter t h, ends_shorter _ _ to.ends));
  }

  pub gives_word : (w : Bor (List ℕ)) → w.now ≡ take (prefix_len in_words t) t → e.rest.now ≡ drop (prefix_len in_words t) t
      → (kind_of (get_or t 0 0) ≡ Opening → ⊥) → (kind_of (get_or t 0 0) ≡ Closing → ⊥) → Gives s (Word w) e
  gives_word w word_is is no_open no_close =
      let n = prefix_len in_words t in
      let k = letter_left (kind_of (get_or t 0 0)) (begins t h to.stops) no_open no_close in
      record {
        ahead = to.ahead ∙ word_behind t h k ∙ rw (word_is, is);
        ends = rw is (ends_on _ _ _ to.ends (ends_drop n t));
        shorter = rw is (omega (arith, word_longer t h k, length-drop n t, ends_shorter _ _ to.ends));
      }
