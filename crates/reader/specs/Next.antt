-- The next token of a text, and where it ends.
use Rattle.std.specs.Prelude.{◌≡◌, ℕ, ◌<◌, cond, List, [], ◌∷◌, ◌++◌, length, Some, None, Option, ◌==◌}
use Rattle.hol.specs.Text.{Token as Sign, opens, closes, word, gap, comment, is_blank, tokens}
use Rattle.reader.specs.declared.tokens.Token.{Token}
use Rattle.reader.specs.declared.tokens.Token.TheVariants.{Open, Close, Word}
use Rattle.reader.specs.declared.tokens.Tokens.{Tokens}
use Rattle.reader.specs.declared.kind.Kind.{Kind}
use Rattle.reader.specs.declared.kind.Kind.TheVariants.{Blank, Comment, Opening, Closing, Letter}

-- a byte's kind, where no word and no comment goes on
abbrev pub kind_of : ℕ → Kind
kind_of c =
    cond (is_blank c) Blank
    (cond (c == 59) Comment
    (cond (c == 40) Opening
    (cond (c == 41) Closing Letter)))

-- what a token that was read stands for
abbrev pub stands : Token → Sign
stands Open = opens
stands Close = closes
stands (Word w) = word w.now

-- the tokens of the bytes ahead
abbrev pub stream : Tokens → List Sign
stream s = tokens gap s.rest.now

-- the bytes r are the last of t
abbrev pub EndsWith : List ℕ → List ℕ → Type 0
EndsWith t r = (passed : List ℕ) × (t ≡ passed ++ r)

-- from s to e the token p was read
pub record Gives (s : Tokens) (p : Token) (e : Tokens) : Type 0 where
  pub ahead : stream s ≡ stands p ∷ stream e
  pub ends : EndsWith s.rest.now e.rest.now
  pub shorter : length e.rest.now < length s.rest.now

-- Some p, and p was the first token ahead; None, and none is ahead
abbrev pub NextSays : Tokens → Tokens → Option Token → Type 0
NextSays s e None = (stream s ≡ []) × (e ≡ s)
NextSays s e (Some p) = Gives s p e

abbrev pub PeekSays : List Sign → Option Token → Type 0
PeekSays ps None = ps ≡ []
PeekSays ps (Some p) = (qs : List Sign) × (ps ≡ stands p ∷ qs)

-- PARTS OF A TEXT t

-- a byte of this kind begins a token
abbrev pub Begins : Kind → Type 0
Begins Blank = ⊥
Begins Comment = ⊥
Begins Opening = Unit {0}
Begins Closing = Unit {0}
Begins Letter = Unit {0}

-- a token begins with the first byte, or there is none
abbrev pub Stops : List ℕ → Type 0
Stops [] = Unit {0}
Stops (c ∷ cs) = Begins (kind_of c)

-- up to r there is no token, and one begins there, or the text is over
pub record SkipTo (t r : List ℕ) : Type 0 where
  pub ahead : tokens gap t ≡ tokens gap r
  pub ends : EndsWith t r
  pub stops : Stops r

-- a comment that goes on with t ends before r
pub record CommentTo (t r : List ℕ) : Type 0 where
  pub ahead : tokens comment t ≡ tokens gap r
  pub ends : EndsWith t r
