use Rattle.std.proofs.Common.{sym, arith}
use Rattle.lent.specs.Piles.{pile_of}
use Rattle.lent.proofs.Words.{cut_to}
use Rattle.lent.proofs.stack.Stack.truncate.Goals as goal

pub returns-then-n-self-clause-cases : goal.returns-then-n-self-clause-cases
unfolding pile_of
returns-then-n-self-clause-cases c =
    sym (cut_to _ _ _ _ (omega (arith, c.if-n-self.true)) c.args.self.now.fits)
