-- By induction on the derivation (proofs/Types.antt).
use Rattle.hol.proofs.Types.{derivations_typed}
use Rattle.hol.proofs.theorems.typed.Goals as goal

pub returns : goal.returns
returns c = derivations_typed
