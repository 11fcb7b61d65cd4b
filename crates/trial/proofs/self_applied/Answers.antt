use Rattle.trial.proofs.self_applied.Goals as goal
use Rattle.trial.proofs.Chain.{short_free, applied}

pub returns-in_err-v : goal.returns-in_err-v
returns-in_err-v g c = rw c.from_residual-in_err-v.ensures (short_free c.in_ok-a.ensures.grows c.in_ok-x.ensures.grows c.in_err-v.ensures)

pub returns : goal.returns
returns g c = applied _ c.in_ok-a.a c.in_ok-x.x c.in_ok-v.v c.apply.result c.in_ok-a.ensures c.in_ok-x.ensures c.in_ok-v.ensures c.apply.ensures
