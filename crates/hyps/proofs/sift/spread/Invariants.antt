use Rattle.lent.specs.Piles.{pile_of}
use Rattle.std.proofs.Common.{◌≡◌, List}
use mathlib.Core.Option.{some}
use Rattle.hol.specs.Syntax.{Tm}
use Rattle.hyps.proofs.Seeking.{members}
use Rattle.hyps.proofs.Spreading.{Spreading}
use Rattle.hyps.proofs.sift.spread.Given as goal

-- the terms passed lie on the stack
abbrev pub invariant-loop-h : goal.invariant-loop-h
invariant-loop-h g l =
    let c = (g.S.Store.state l.store).contents in
    ((pile_of l.stack).capacity ≡ (pile_of l.initial.stack).capacity) × ((us : List Tm) → c.terms l.hs ≡ some us → Spreading c us (pile_of l.stack) l.rest)

abbrev pub decreases-loop-h : goal.decreases-loop-h
decreases-loop-h g l = members (g.S.Store.state l.store).contents l.rest
