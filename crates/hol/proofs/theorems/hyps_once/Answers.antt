-- Rule by rule (proofs/Once.antt).
use Rattle.hol.proofs.Once.{steps_once}
use Rattle.hol.proofs.theorems.hyps_once.Goals as goal

pub returns : goal.returns
returns c = steps_once
