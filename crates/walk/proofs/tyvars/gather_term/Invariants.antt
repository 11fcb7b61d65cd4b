use Rattle.lent.specs.Piles.{pile_of}
use Rattle.std.proofs.Common.{◌≡◌, ◌+◌, List, length, reverse}
use mathlib.Core.Option.{some}
use Rattle.hol.specs.Base.{Word}
use Rattle.hol.specs.Syntax.{Tm, tyvars_tm}
use Rattle.store.specs.Measures.{nodes_tm}
use Rattle.store.specs.State.{Stays}
use Rattle.walk.specs.Standing.{Names}
use Rattle.walk.specs.TypeVars.{Adds}
use Rattle.walk.proofs.Pending.{load}
use Rattle.walk.proofs.Gathering.{Gathering}
use Rattle.walk.proofs.tyvars.gather_term.Given as goal

-- the names gathered so far and the terms still to come give what is wanted
abbrev pub invariant-loop-next : goal.invariant-loop-next
invariant-loop-next g l =
    ((pile_of l.pending).capacity ≡ length l.fn.words) × Stays (g.S.Store.state l.initial.store) (g.S.Store.state l.store)
    × Adds (pile_of l.initial.names) (pile_of l.names)
    × ((u : Tm) (ws : List Word) → (g.S.Store.state l.initial.store).contents.term l.t ≡ some u
    → Names (g.S.Store.state l.initial.store).contents (reverse (pile_of l.initial.names).held) ws
    → Gathering (g.S.Store.state l.store).contents (g.S.Store.state l.store).contents.term tyvars_tm nodes_tm
    (tyvars_tm u ws) (length (pile_of l.initial.names).held + nodes_tm u) (pile_of l.pending).held (pile_of l.names).held)

abbrev pub decreases-loop-next : goal.decreases-loop-next
decreases-loop-next g l = load (g.S.Store.state l.store).contents.term nodes_tm (pile_of l.pending).held
