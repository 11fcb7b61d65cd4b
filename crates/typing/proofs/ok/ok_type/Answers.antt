use Rattle.std.proofs.Common.{ap, arith}
use Rattle.store.specs.Measures.{nodes_ty}
use Rattle.lent.proofs.Refused.{refused}
use Rattle.typing.proofs.ok.ok_type.Goals as goal

pub returns-in_err-ok_types-in-Named-clause-cases : goal.returns-in_err-ok_types-in-Named-clause-cases
returns-in_err-ok_types-in-Named-clause-cases g c th b k h =
    let v = c.in-Named.ensures b h in
    let s = c.takes.ensures.stays.grows.keeps in
    let l = c.in_err-ok_types-in-Named.ensures.cases th v.args ((g.T.Signature.meaning c.args.theory.now).kept _ _ th s k) (s.types _ v.args v.args_are) in
    let n = ap nodes_ty v.is in
    refused _ c.from_residual.result c.from_residual.ensures.0 (omega (arith, l, n))
