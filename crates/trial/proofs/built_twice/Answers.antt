use Rattle.trial.proofs.built_twice.Goals as goal
use Rattle.trial.proofs.Chain.{short-second, compared}

pub returns-in_err-t : goal.returns-in_err-t
returns-in_err-t g c = rw c.from_residual-in_err-t.ensures (short-second c.in_ok-s.ensures c.in_err-t.ensures)

pub returns : goal.returns
returns g c = compared c.same.result c.in_ok-s.ensures c.in_ok-t.ensures c.same.ensures.stays c.same.ensures.complete
