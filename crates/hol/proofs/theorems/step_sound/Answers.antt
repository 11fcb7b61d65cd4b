-- What a step finds can be derived, rule by rule (proofs/Steps.antt).
use Rattle.hol.proofs.Steps.{steps_sound}
use Rattle.hol.proofs.theorems.step_sound.Goals as goal

pub returns : goal.returns
returns c = steps_sound
