-- The bytes passed are blanks and comments.
use Rattle.std.proofs.Common.{◌≡◌, length}
use Rattle.hol.specs.Text.{gap, tokens}
use Rattle.reader.specs.Next.{EndsWith}
use Rattle.reader.proofs.tokens.skip.Given as goal

abbrev pub invariant-loop-text : goal.invariant-loop-text
invariant-loop-text l = (tokens gap l.initial.text ≡ tokens gap l.text) × EndsWith l.initial.text l.text

abbrev pub decreases-loop-text : goal.decreases-loop-text
decreases-loop-text l = length l.text
