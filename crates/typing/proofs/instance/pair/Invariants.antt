use Rattle.lent.specs.Piles.{pile_of}
use Rattle.std.proofs.Common.{◌≡◌, List, length}
use mathlib.Core.Option.{some}
use Rattle.hol.specs.Base.{Word}
use Rattle.hol.specs.Syntax.{Tys, count_tys}
use Rattle.walk.specs.Standing.{Names}
use Rattle.typing.proofs.Paired.{Pairing}
use Rattle.typing.proofs.instance.pair.Given as goal

abbrev pub invariant-loop-name : goal.invariant-loop-name
invariant-loop-name g l =
    ((pile_of l.entries).capacity ≡ (pile_of l.initial.entries).capacity)
    × ((ws : List Word) (bs : Tys) → Names (g.S.Store.state l.store).contents l.names ws → (g.S.Store.state l.store).contents.types l.list ≡ some bs → count_tys bs ≡ length l.names
    → Pairing (g.S.Store.state l.store).contents l.names ws bs l.name-index l.rest (pile_of l.entries).held)
