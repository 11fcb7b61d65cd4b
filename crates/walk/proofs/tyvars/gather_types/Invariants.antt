use Rattle.lent.specs.Piles.{pile_of}
use Rattle.std.proofs.Common.{◌≡◌, ◌+◌, List, length, reverse}
use mathlib.Core.Option.{some}
use Rattle.hol.specs.Base.{Word}
use Rattle.hol.specs.Syntax.{Tys, tyvars_tys}
use Rattle.store.specs.State.{Stays}
use Rattle.walk.specs.Standing.{Names}
use Rattle.walk.specs.TypeVars.{Adds}
use Rattle.walk.proofs.Pending.{load}
use Rattle.walk.proofs.Gathering.{Gathering}
use Rattle.walk.proofs.TypeLists.{size_tys}
use Rattle.walk.proofs.tyvars.gather_types.Given as goal

-- the names gathered so far and the lists of types still to come give what is wanted
abbrev pub invariant-loop-next : goal.invariant-loop-next
invariant-loop-next g l =
    ((pile_of l.pending).capacity ≡ length l.fn.words) × Stays (g.S.Store.state l.initial.store) (g.S.Store.state l.store)
    × Adds (pile_of l.initial.names) (pile_of l.names)
    × ((bs : Tys) (ws : List Word) → (g.S.Store.state l.initial.store).contents.types l.list ≡ some bs
    → Names (g.S.Store.state l.initial.store).contents (reverse (pile_of l.initial.names).held) ws
    → Gathering (g.S.Store.state l.store).contents (g.S.Store.state l.store).contents.types tyvars_tys size_tys
    (tyvars_tys bs ws) (length (pile_of l.initial.names).held + size_tys bs) (pile_of l.pending).held (pile_of l.names).held)

abbrev pub decreases-loop-next : goal.decreases-loop-next
decreases-loop-next g l = load (g.S.Store.state l.store).contents.types size_tys (pile_of l.pending).held
