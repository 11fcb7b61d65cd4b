use Rattle.lent.specs.Piles.{pile_of}
use Rattle.std.proofs.Common.{arith}
use Rattle.std.proofs.lemmas.Iterator.Adapters.{YieldsList-from_rev_slice}
use Rattle.std.proofs.lemmas.Iterator.Consumers.{YieldsList-turn, YieldsList-end}
use Rattle.std.proofs.lemmas.List.{drop_all, length_push}
use Rattle.parser.proofs.Lookup.{next_left, passed, found, missing}
use Rattle.parser.proofs.scope.lookup.Goals as goal

pub returns-then-is_named : goal.returns-then-is_named
returns-then-is_named g c = λ xs h.
    let y = YieldsList-turn (YieldsList-from_rev_slice c.as_slice.result.now cc) c.loop-name.yielded _ c.loop-name.yielded_by _ _ c.in-Some.name c.in-Some.is c.next.ensures.steps in
    let e = next_left (pile_of c.args.names.now).held c.loop-name.outwards c.in-Some.name.now (rw (← c.as_slice.ensures, c.loop-name.invariant.0) y) in
    found (rw e at (c.loop-name.invariant.1 xs h)) c.if-is_named.ensures

pub loop-name-preserved : goal.loop-name-preserved
loop-name-preserved g c =
    let y = YieldsList-turn (YieldsList-from_rev_slice c.as_slice.result.now cc) c.loop-name.yielded _ c.loop-name.yielded_by _ _ c.in-Some.name c.in-Some.is c.next.ensures.steps in
    let e = next_left (pile_of c.args.names.now).held c.loop-name.outwards c.in-Some.name.now (rw (← c.as_slice.ensures, c.loop-name.invariant.0) y) in
    (omega (arith, length_push c.loop-name.yielded c.in-Some.name), λ xs h. passed (rw e at (c.loop-name.invariant.1 xs h)) c.if-is_named.ensures)

pub returns : goal.returns
returns g c = λ xs h.
    let y = YieldsList-end (YieldsList-from_rev_slice c.as_slice.result.now cc) c.loop-name.yielded _ c.loop-name.yielded_by _ _ c.in-None.is c.next.ensures.steps in
    let e = drop_all c.loop-name.outwards (pile_of c.args.names.now).held (omega (arith, rw c.as_slice.ensures at y.1)) in
    missing (rw e at (c.loop-name.invariant.1 xs h))
