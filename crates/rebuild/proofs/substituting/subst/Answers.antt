use Rattle.std.proofs.Common.{length, refl}
use Rattle.store.specs.Measures.{nodes_tm}
use Rattle.rebuild.specs.Rebuilt.{substituting}
use Rattle.rebuild.proofs.substituting.subst.Goals as goal
use Rattle.rebuild.proofs.Changes.{subst_rebuilt, rebuilds_as}

pub rebuild-requires-clause-does : goal.rebuild-requires-clause-does
rebuild-requires-clause-does g c =
    let v = c.requires.entries in
    (substituting v.0, record { entries = v.0; entries_are = v.1; change = refl })

pub returns : goal.returns
returns g c es u e j =
    let st = g.S.Store.state in
    rebuilds_as (length c.args.words.now) (nodes_tm u) (st c.args.store.now) (st c.rebuild.new.store) c.rebuild.result
    (subst_rebuilt es 0 u) (c.rebuild.ensures (substituting es) u (record { entries = es; entries_are = e; change = refl }) j)
