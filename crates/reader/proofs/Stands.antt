-- A depth and a count stand for a mode and a stack of S-expressions: what they keep of it.
use Rattle.std.proofs.Common.{◌≡◌, ℕ, ◌+◌, List, [], ◌∷◌, ◌++◌, length}
use mathlib.Core.Option.{Option, some, none}
use Rattle.hol.specs.Text.{Token, Mode as Place, gap, in_word, comment, Turn, Sexps, count_sexps, parse}
use Rattle.reader.specs.Steps.{state}
use Rattle.reader.specs.declared.state.Mode.{Mode}
use Rattle.reader.specs.declared.state.Mode.TheVariants.{Gap, InWord, Comment}
use Rattle.reader.specs.declared.state.Reader.{Reader}

abbrev pub mode_of : Place → Mode
mode_of gap = Gap
mode_of (in_word w) = InWord
mode_of comment = Comment

-- a word that has begun
abbrev pub pending : Place → ℕ
pending gap = 0
pending (in_word w) = 1
pending comment = 0

-- how many S-expressions stand outside of all brackets, of the stack with us on top
abbrev pub outside : Sexps → List Sexps → ℕ
outside us [] = count_sexps us
outside us (vs ∷ uss) = outside vs uss

-- the same, with the word or the bracket that has begun there
abbrev pub counted : Place → Sexps → List Sexps → ℕ
counted p us [] = count_sexps us + pending p
counted p us (vs ∷ uss) = outside vs uss + 1

abbrev pub stands : Place → Sexps → List Sexps → Reader
stands p us uss = state (mode_of p) (length uss) (counted p us uss)

-- the reader s stands where the turn t leads from the stack with us on top
pub record Goes (t : Turn) (us : Sexps) (uss : List Sexps) (s : Reader) : Type 0 where
  pub top : Sexps
  pub below : List Sexps
  pub at : s ≡ stands t.mode top below
  pub same : (ps : List Token) → parse (t.out ++ ps) (us ∷ uss) ≡ parse ps (top ∷ below)

-- the same of what a byte leads to: nothing, and then no further token mends the brackets
abbrev pub Meets : Turn → Sexps → List Sexps → Option Reader → Type 0
Meets t us uss none = (ps : List Token) → parse (t.out ++ ps) (us ∷ uss) ≡ none
Meets t us uss (some s) = Goes t us uss s
