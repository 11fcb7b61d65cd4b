-- Words for the kinds of pairs on the stack.
use Rattle.std.specs.Prelude.{◌≡◌, ℕ}
use Rattle.parser_types.specs.declared.turn.Mark.{Mark}
use Rattle.parser_types.specs.declared.turn.Mark.TheVariants.{Bracket, Argument}

abbrev pub code : Mark → ℕ
code Bracket = 0
code Argument = 1

-- m is what the word k stands for, if it stands for something
abbrev pub Decodes : ℕ → Mark → Type 0
Decodes k m = (v : Mark) → k ≡ code v → m ≡ v
