use Rattle.std.proofs.Common.{ap, arith}
use Rattle.typing.specs.Typed.{nodes_of}
use Rattle.store.proofs.Growth.{grows-more}
use Rattle.typing.proofs.Sizes.{declared-fits}
use Rattle.workspace.specs.Refusals.{unserved}
use Rattle.workspace.proofs.Serving.{finding, no_room, lacks_tight, widest_positive}
use Rattle.workspace.proofs.types.constant_type.Goals as goal

pub returns-in_err-found : goal.returns-in_err-found
returns-in_err-found g c th w bs h k l =
    rw (no_room c.from_residual.result c.from_residual.ensures.1)
    (unserved (lacks_tight _ _ _ _ _ _ _ (omega arith) (omega arith) (omega (arith, declared-fits th w)) (omega (arith, widest_positive th))
    (c.in_err-found.ensures th w bs h k l)))

pub returns : goal.returns
returns g c th w bs h k l =
    rw c.ok_or.ensures.value
    (finding _ _ _ c.in_ok-found.found (c.in_ok-found.ensures th w bs h k l) (λ e gr. grows-more (omega (arith, ap nodes_of e)) gr)
    (λ b n e m. record { grows = grows-more (omega (arith, ap nodes_of e)) m.grows; stands = m.stands }))
