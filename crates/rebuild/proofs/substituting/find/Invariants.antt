use Rattle.std.proofs.Common.{length}
use Rattle.rebuild.proofs.Variables.{Seeking}
use Rattle.rebuild.proofs.substituting.find.Given as goal

-- what the rest has for the variable is what all entries have
abbrev pub invariant-loop-rest : goal.invariant-loop-rest
invariant-loop-rest g l =
    Seeking (g.S.Store.state l.initial.store) (g.S.Store.state l.store) l.entries l.rest l.x l.a

abbrev pub decreases-loop-rest : goal.decreases-loop-rest
decreases-loop-rest g l = length l.rest
