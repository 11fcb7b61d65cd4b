use Rattle.lent.specs.Piles.{pile_of}
use Rattle.rebuild_types.proofs.Loop.{Running, turn-moves}
use Rattle.rebuild_types.proofs.run.Given as goal

abbrev pub invariant-loop-turn : goal.invariant-loop-turn
invariant-loop-turn g l =
    Running (g.S.Store.state l.initial.store) l.entries l.initial.turn (pile_of l.initial.stack) (g.S.Store.state l.store) (pile_of l.stack) l.turn

-- the moves to come
abbrev pub decreases-loop-turn : goal.decreases-loop-turn
decreases-loop-turn g l = turn-moves (g.S.Store.state l.store).contents (pile_of l.stack).held l.turn
