use Rattle.std.proofs.Common.{◌<◌, ◌≤◌, length, rules}
use Rattle.store.proofs.Growth.{stays_on}
use Rattle.rebuild.proofs.substituting.find.Goals as goal
use Rattle.rebuild.proofs.Variables.{next, found, missed}

pub returns-then-same_variable-clause-cases : goal.returns-then-same_variable-clause-cases
returns-then-same_variable-clause-cases g c =
    let st = g.S.Store.state in
    let l : 3 ≤ length c.loop-rest.rest.now = search rules in
    found (st c.args.store.now) (st c.loop-rest.store) (st c.same_variable.new.store) c.args.entries.now
    c.loop-rest.rest.now c.args.x c.args.a c.same_variable.result l c.loop-rest.invariant c.same_variable.ensures.same
    c.if-same_variable.true

pub returns-then-same_variable-clause-stays : goal.returns-then-same_variable-clause-stays
returns-then-same_variable-clause-stays g c = stays_on c.loop-rest.invariant.stays c.same_variable.ensures.stays

pub loop-rest-preserved : goal.loop-rest-preserved
loop-rest-preserved g c =
    let st = g.S.Store.state in
    let e = c.same_variable.ensures in
    let l : 3 ≤ length c.loop-rest.rest.now = search rules in
    next (st c.args.store.now) (st c.loop-rest.store) (st c.same_variable.new.store) c.args.entries.now
    c.loop-rest.rest.now c.args.x c.args.a c.same_variable.result l c.loop-rest.invariant e.same
    c.if-same_variable.false e.stays

pub returns-clause-cases : goal.returns-clause-cases
returns-clause-cases g c =
    let st = g.S.Store.state in
    let l : length c.loop-rest.rest.now < 3 = search rules in
    missed (st c.args.store.now) (st c.loop-rest.store) c.args.entries.now c.loop-rest.rest.now c.args.x c.args.a
    c.loop-rest.invariant l
