use Rattle.std.proofs.Common.{refl}
use Rattle.lent.proofs.Words.{stack_lent}
use Rattle.lent.proofs.tests.fill_above.Goals as goal

pub returns-clause-same : goal.returns-clause-same
returns-clause-same c = stack_lent c.args.s.now _ c.fill.new.words refl refl refl c.fill.auto.words
