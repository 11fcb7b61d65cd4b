-- A verdict carries a well-formed theory, command by command (proofs/Accepted.antt).
use Rattle.hol.proofs.Accepted.{accepted_wf}
use Rattle.hol.proofs.theorems.accepted_good.Goals as goal

pub returns : goal.returns
returns c = accepted_wf
