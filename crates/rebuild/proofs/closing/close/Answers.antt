use Rattle.std.proofs.Common.{length, refl}
use Rattle.store.specs.Measures.{nodes_tm}
use Rattle.rebuild.specs.Rebuilt.{closing}
use Rattle.rebuild.proofs.closing.close.Goals as goal
use Rattle.rebuild.proofs.Changes.{close_rebuilt, rebuilds_as}

pub rebuild-requires-clause-does : goal.rebuild-requires-clause-does
rebuild-requires-clause-does g c =
    let v = c.requires.variable in
    (closing v.0 v.1, record { name = v.0; ty = v.1; name_is = v.2; ty_is = v.3; change = refl })

pub returns : goal.returns
returns g c w b u e i j =
    let st = g.S.Store.state in
    rebuilds_as (length c.args.words.now) (nodes_tm u) (st c.args.store.now) (st c.rebuild.new.store) c.rebuild.result
    (close_rebuilt w b 0 u) (c.rebuild.ensures (closing w b) u (record { name = w; ty = b; name_is = e; ty_is = i; change = refl }) j)
