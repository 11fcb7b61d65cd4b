-- Words for what waits.
use Rattle.std.specs.Prelude.{◌≡◌, ℕ}
use Rattle.waits.specs.declared.Wait.{Wait}
use Rattle.waits.specs.declared.Wait.TheVariants.{Function, Argument, Body}

abbrev pub code : Wait → ℕ
code Function = 0
code Argument = 1
code Body = 2

-- w is what the word k stands for, if it stands for something
abbrev pub Decodes : ℕ → Wait → Type 0
Decodes k w = (v : Wait) → k ≡ code v → w ≡ v
