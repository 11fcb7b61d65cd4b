use Rattle.std.proofs.Common.{◌≡◌, List}
use mathlib.Core.Option.{some}
use Rattle.hol.specs.Syntax.{Tm}
use Rattle.hyps.proofs.Seeking.{Seeking, members}
use Rattle.hyps.proofs.members.contains.Given as goal

-- the terms passed are not the one sought
abbrev pub invariant-loop-h : goal.invariant-loop-h
invariant-loop-h g l =
    let s = g.S.Store.state l.initial.store in
    (u : Tm) (us : List Tm) → s.contents.term l.t ≡ some u → s.contents.terms l.hs ≡ some us
    → Seeking s (g.S.Store.state l.store) u us l.rest

abbrev pub decreases-loop-h : goal.decreases-loop-h
decreases-loop-h g l = members (g.S.Store.state l.store).contents l.rest
