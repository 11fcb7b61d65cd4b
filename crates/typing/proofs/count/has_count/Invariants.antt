use Rattle.std.proofs.Common.{◌≡◌}
use mathlib.Core.Option.{some}
use Rattle.hol.specs.Syntax.{Tys}
use Rattle.typing.proofs.Counted.{Counting}
use Rattle.typing.proofs.count.has_count.Given as goal

abbrev pub invariant-loop : goal.invariant-loop
invariant-loop g l =
    (bs : Tys) → (g.S.Store.state l.store).contents.types l.list ≡ some bs → Counting (g.S.Store.state l.store).contents bs l.counter l.rest
