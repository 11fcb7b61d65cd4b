use Rattle.rebuild_types.specs.Machine.{one, holds_root, at_type}
use Rattle.rebuild_types.proofs.subst_type.Goals as goal

pub run-requires-clause-start : goal.run-requires-clause-start
run-requires-clause-start g c = let b = c.requires.stands in (one, b.0, at_type b.1 holds_root)

pub returns : goal.returns
returns g c es b e i = c.run.ensures es one b e (at_type i holds_root)
