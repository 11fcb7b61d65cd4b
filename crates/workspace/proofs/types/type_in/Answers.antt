use Rattle.std.proofs.Common.{arith}
use Rattle.typing.proofs.Sizes.{nodes_positive}
use Rattle.workspace.specs.Refusals.{unserved}
use Rattle.workspace.proofs.Serving.{finding, no_room, lacks_cramped}
use Rattle.workspace.proofs.types.type_in.Goals as goal

pub returns-in_err-found : goal.returns-in_err-found
returns-in_err-found g c th u h k =
    rw (no_room c.from_residual.result c.from_residual.ensures.1)
    (unserved (lacks_cramped _ _ _ _ _ _ _ _ (omega arith) (omega arith) (omega arith) (nodes_positive u) (c.in_err-found.ensures th u h k)))

pub returns : goal.returns
returns g c th u h k = rw c.ok_or.ensures.value (finding _ _ _ c.in_ok-found.found (c.in_ok-found.ensures th u h k) (λ e gr. gr) (λ b n e m. m))
