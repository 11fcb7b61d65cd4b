use Rattle.lent.specs.Piles.{pile_of}
use Rattle.std.proofs.Common.{◌≡◌, false, length}
use mathlib.Core.Option.{some}
use Rattle.hol.specs.Base.{Word}
use Rattle.hol.specs.Syntax.{Ty, Tm, free_in}
use Rattle.store.specs.Measures.{nodes_tm}
use Rattle.store.specs.State.{Stays}
use Rattle.walk.proofs.Pending.{Pending, load}
use Rattle.walk.proofs.FreeVars.{seeking}
use Rattle.walk.proofs.free.free_in.Given as goal

-- the variable was not found so far
abbrev pub invariant-loop-next : goal.invariant-loop-next
invariant-loop-next g l =
    ((pile_of l.pending).capacity ≡ length l.fn.words) × Stays (g.S.Store.state l.initial.store) (g.S.Store.state l.store)
    × ((y : Word) (b : Ty) (u : Tm) → (g.S.Store.state l.initial.store).contents.word l.x ≡ some y
    → (g.S.Store.state l.initial.store).contents.typ l.a ≡ some b
    → (g.S.Store.state l.initial.store).contents.term l.t ≡ some u
    → Pending (g.S.Store.state l.store).contents.term (seeking y b) nodes_tm (free_in y b u) (nodes_tm u)
    (pile_of l.pending).held false 0)

abbrev pub decreases-loop-next : goal.decreases-loop-next
decreases-loop-next g l = load (g.S.Store.state l.store).contents.term nodes_tm (pile_of l.pending).held
