use Rattle.lent.specs.Piles.{pile_of}
use Rattle.std.proofs.Common.{◌≡◌, true, length}
use mathlib.Core.Option.{some}
use Rattle.hol.specs.Syntax.{Tys}
use Rattle.hol.specs.Theory.{Theory, ok_tys}
use Rattle.store.specs.State.{Stays}
use Rattle.walk.proofs.Pending.{Pending, load}
use Rattle.walk.proofs.TypeLists.{size_tys}
use Rattle.typing.proofs.OkLists.{passing}
use Rattle.typing.proofs.ok.ok_types.Given as goal

-- all types so far were ok
abbrev pub invariant-loop-next : goal.invariant-loop-next
invariant-loop-next g l =
    ((pile_of l.pending).capacity ≡ length l.fn.words) × Stays (g.S.Store.state l.initial.store) (g.S.Store.state l.store)
    × ((th : Theory) (bs : Tys) → (g.T.Signature.meaning l.theory).knows (g.S.Store.state l.initial.store).contents th → (g.S.Store.state l.initial.store).contents.types l.list ≡ some bs
    → Pending (g.S.Store.state l.store).contents.types (passing th) size_tys (ok_tys th bs) (size_tys bs) (pile_of l.pending).held true 0)

abbrev pub decreases-loop-next : goal.decreases-loop-next
decreases-loop-next g l = load (g.S.Store.state l.store).contents.types size_tys (pile_of l.pending).held
