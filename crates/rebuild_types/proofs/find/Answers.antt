use Rattle.std.proofs.Common.{◌<◌, ◌≤◌, length, rules}
use Rattle.rebuild_types.proofs.find.Goals as goal
use Rattle.rebuild_types.proofs.Lookup.{next, found, missed}

pub returns-then-same_name-clause-cases : goal.returns-then-same_name-clause-cases
returns-then-same_name-clause-cases g c =
    let st = g.S.Store.state in
    let e = c.same_name.ensures in
    let l : 2 ≤ length c.loop-rest.rest.now = search rules in
    found (st c.args.store.now) (st c.loop-rest.store) (st c.same_name.new.self) c.args.entries.now
    c.loop-rest.rest.now c.args.name c.same_name.result l e.sound e.complete c.loop-rest.invariant c.if-same_name.true

pub loop-rest-preserved : goal.loop-rest-preserved
loop-rest-preserved g c =
    let st = g.S.Store.state in
    let e = c.same_name.ensures in
    let l : 2 ≤ length c.loop-rest.rest.now = search rules in
    next (st c.args.store.now) (st c.loop-rest.store) (st c.same_name.new.self) c.args.entries.now
    c.loop-rest.rest.now c.args.name c.same_name.result l e.sound e.complete c.loop-rest.invariant
    c.if-same_name.false e.stays

pub returns-clause-cases : goal.returns-clause-cases
returns-clause-cases g c =
    let st = g.S.Store.state in
    let l : length c.loop-rest.rest.now < 2 = search rules in
    missed (st c.args.store.now) (st c.loop-rest.store) c.args.entries.now c.loop-rest.rest.now c.args.name c.loop-rest.invariant l
