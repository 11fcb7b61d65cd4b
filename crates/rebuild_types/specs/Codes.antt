-- Words for what waits.
use Rattle.std.specs.Prelude.{◌≡◌, ℕ}
use Rattle.rebuild_types.specs.declared.turn.Wait.{Wait}
use Rattle.rebuild_types.specs.declared.turn.Wait.TheVariants.{Arguments, Head, Tail}

abbrev pub code : Wait → ℕ
code Arguments = 0
code Head = 1
code Tail = 2

-- w is what the word k stands for, if it stands for something
abbrev pub Decodes : ℕ → Wait → Type 0
Decodes k w = (v : Wait) → k ≡ code v → w ≡ v
