use Rattle.hol.proofs.truth.sound.Goals as goal
use Rattle.hol.proofs.Soundness.{derivations_valid}

-- src/truth.rt:5:1
pub returns : goal.returns
returns c = derivations_valid
