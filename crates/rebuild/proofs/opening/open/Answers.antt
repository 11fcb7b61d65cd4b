use Rattle.std.proofs.Common.{length, refl}
use Rattle.store.specs.Measures.{nodes_tm}
use Rattle.rebuild.specs.Rebuilt.{opening}
use Rattle.rebuild.proofs.opening.open.Goals as goal
use Rattle.rebuild.proofs.Changes.{open_rebuilt, rebuilds_as}

pub rebuild-requires-clause-does : goal.rebuild-requires-clause-does
rebuild-requires-clause-does g c =
    let v = c.requires.term in
    (opening v.0, record { tm = v.0; tm_is = v.1; change = refl })

pub returns : goal.returns
returns g c v u e j =
    let st = g.S.Store.state in
    rebuilds_as (length c.args.words.now) (nodes_tm u) (st c.args.store.now) (st c.rebuild.new.store) c.rebuild.result
    (open_rebuilt v 0 u) (c.rebuild.ensures (opening v) u (record { tm = v; tm_is = e; change = refl }) j)
