use Rattle.lent.specs.Piles.{pile_of}
use Rattle.std.proofs.Common.{◌≡◌, true, length}
use mathlib.Core.Option.{some}
use Rattle.hol.specs.Syntax.{Tm, closed}
use Rattle.store.specs.Measures.{nodes_tm}
use Rattle.walk.proofs.Pending.{Pending, load}
use Rattle.walk.proofs.FreeVars.{closing}
use Rattle.walk.proofs.free.closed.Given as goal

-- no free variable was found so far
abbrev pub invariant-loop-next : goal.invariant-loop-next
invariant-loop-next g l =
    ((pile_of l.pending).capacity ≡ length l.fn.words)
    × ((u : Tm) → (g.S.Store.state l.store).contents.term l.t ≡ some u
    → Pending (g.S.Store.state l.store).contents.term closing nodes_tm (closed u) (nodes_tm u) (pile_of l.pending).held true
    0)

abbrev pub decreases-loop-next : goal.decreases-loop-next
decreases-loop-next g l = load (g.S.Store.state l.store).contents.term nodes_tm (pile_of l.pending).held
