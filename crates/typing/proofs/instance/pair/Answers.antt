use Rattle.std.proofs.Common.{◌∙◌, arith}
use Rattle.lent.proofs.Refused.{refused}
use Rattle.typing.proofs.Paired.{not_over, all_paired, next}
use Rattle.typing.proofs.instance.pair.Goals as goal

pub types_at-requires : goal.types_at-requires
types_at-requires g c =
    let (ws, h) = c.requires.names in
    let (bs, e, q) = c.requires.types in
    let p = c.loop-name.invariant.1 ws bs h e q in
    (p.types, p.types_are)

pub unreachable-requires : goal.unreachable-requires
unreachable-requires g c =
    let (ws, h) = c.requires.names in
    let (bs, e, q) = c.requires.types in
    not_over (c.loop-name.invariant.1 ws bs h e q) c.loop-name-test.true c.in-Nil.ensures

pub returns-in_err-push_all-in-Cons : goal.returns-in_err-push_all-in-Cons
returns-in_err-push_all-in-Cons g c ws bs h e q =
    let p = c.loop-name.invariant.1 ws bs h e q in
    refused _ c.from_residual.result c.from_residual.ensures.0
    (omega (arith, p.long, c.loop-name-test.true, c.in_err-push_all-in-Cons.ensures.cases.1, c.loop-name.invariant.0))

pub loop-name-preserved : goal.loop-name-preserved
loop-name-preserved g c = (
  c.in_ok-push_all-in-Cons.ensures.cases.1 ∙ c.loop-name.invariant.0,
  λ ws bs h e q. next (c.loop-name.invariant.1 ws bs h e q) c.loop-name-test.true c.in-Cons.ensures c.in_ok-push_all-in-Cons.ensures.cases.0,
)

pub returns : goal.returns
returns g c ws bs h e q = all_paired (c.loop-name.invariant.1 ws bs h e q) c.loop-name-test.false
