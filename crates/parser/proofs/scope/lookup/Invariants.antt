-- No λ that was passed has the name, and those that are left decide.
use Rattle.lent.specs.Piles.{pile_of}
use Rattle.std.proofs.Common.{◌≡◌, List, length, drop}
use Rattle.hol.specs.Base.{Word}
use Rattle.parser.specs.Scope.{Names}
use Rattle.parser.proofs.Lookup.{Seeking}
use Rattle.parser.proofs.scope.lookup.Given as goal

abbrev pub invariant-loop-name : goal.invariant-loop-name
invariant-loop-name g l =
    (l.outwards ≡ length l.yielded) × ((xs : List Word) → Names (g.S.Store.state l.store).contents (pile_of l.names).held xs
    → Seeking (g.S.Store.state l.store).contents l.w xs (drop l.outwards (pile_of l.names).held) l.outwards)
