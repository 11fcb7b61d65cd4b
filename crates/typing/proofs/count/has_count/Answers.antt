use Rattle.std.proofs.Common.{arith}
use Rattle.std.proofs.lemmas.Bool.Decides.{nat_tests}
use Rattle.typing.proofs.Counted.{next, over, not_over}
use Rattle.typing.proofs.count.has_count.Goals as goal

pub types_at-requires : goal.types_at-requires
types_at-requires g c = let (bs, e) = c.requires in let k = c.loop.invariant bs e in (k.items, k.is)

pub returns-in_default : goal.returns-in_default
returns-in_default g c bs e = let q = over (c.loop.invariant bs e) c.in_default.ensures in let l = c.loop-test.true in grind (arith, nat_tests)

pub loop-preserved : goal.loop-preserved
loop-preserved g c bs e = next (c.loop.invariant bs e) c.in-Cons.ensures

pub types_at-requires-2 : goal.types_at-requires-2
types_at-requires-2 g c = let (bs, e) = c.requires in let k = c.loop.invariant bs e in (k.items, k.is)

pub returns-in-Nil : goal.returns-in-Nil
returns-in-Nil g c bs e =
    let q = over (c.loop.invariant bs e) c.in-Nil.ensures in
    let l = c.loop-test.false in
    let m = c.loop.auto.counter-end in
    grind (arith, nat_tests)

pub returns-in_default-matches : goal.returns-in_default-matches
returns-in_default-matches g c bs e =
    let q = not_over (c.loop.invariant bs e) c.in_default-matches.ensures in
    let l = c.loop-test.false in
    grind (arith, nat_tests)
