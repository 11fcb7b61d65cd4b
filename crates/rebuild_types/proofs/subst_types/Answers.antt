use Rattle.rebuild_types.specs.Machine.{many, holds_root, at_types}
use Rattle.rebuild_types.proofs.subst_types.Goals as goal

pub run-requires-clause-start : goal.run-requires-clause-start
run-requires-clause-start g c = let b = c.requires.stands in (many, b.0, at_types b.1 holds_root)

pub returns : goal.returns
returns g c es b e i = c.run.ensures es many b e (at_types i holds_root)
