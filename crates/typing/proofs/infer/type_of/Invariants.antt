use Rattle.lent.specs.Piles.{pile_of}
use Rattle.std.proofs.Common.{◌≡◌, length}
use mathlib.Core.Option.{some}
use Rattle.hol.specs.Syntax.{Tm}
use Rattle.hol.specs.Theory.{Theory}
use Rattle.typing.proofs.Loop.{Way, turn-moves}
use Rattle.typing.proofs.infer.type_of.Given as goal

abbrev pub invariant-loop-turn : goal.invariant-loop-turn
invariant-loop-turn g l =
    ((pile_of l.f).capacity ≡ length l.fn.words) × ((pile_of l.around).capacity ≡ length l.fn.scope)
    × ((th : Theory) (u : Tm) → (g.T.Signature.meaning l.theory).knows (g.S.Store.state l.initial.store).contents th → (g.S.Store.state l.initial.store).contents.term l.t ≡ some u
    → Way th (g.S.Store.state l.initial.store) u (g.S.Store.state l.store) (pile_of l.f).held (pile_of l.around).held l.turn)

-- the moves to come
abbrev pub decreases-loop-turn : goal.decreases-loop-turn
decreases-loop-turn g l = turn-moves (g.S.Store.state l.store).contents (pile_of l.f).held l.turn
