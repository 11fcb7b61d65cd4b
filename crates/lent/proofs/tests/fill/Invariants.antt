use Rattle.std.proofs.Common.{◌-◌}
use Rattle.lent.proofs.tests.fill.Given as goal

abbrev pub decreases-loop-n : goal.decreases-loop-n
decreases-loop-n l = l.most - l.n
