use Rattle.hol.proofs.truth.consistent.Goals as goal
use Rattle.hol.proofs.Soundness.{falsehood_not_derived}

-- src/truth.rt:12:1
pub returns : goal.returns
returns c = falsehood_not_derived
