use Rattle.std.proofs.Common.{length}
use Rattle.rebuild_types.proofs.Lookup.{Seeking}
use Rattle.rebuild_types.proofs.find.Given as goal

-- what the rest has for the name is what all entries have
abbrev pub invariant-loop-rest : goal.invariant-loop-rest
invariant-loop-rest g l = Seeking (g.S.Store.state l.initial.store) (g.S.Store.state l.store) l.entries l.rest l.name

abbrev pub decreases-loop-rest : goal.decreases-loop-rest
decreases-loop-rest g l = length l.rest
