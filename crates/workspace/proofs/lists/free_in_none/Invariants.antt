use Rattle.std.proofs.Common.{◌≡◌, List}
use mathlib.Core.Option.{some}
use Rattle.hol.specs.Base.{Word}
use Rattle.hol.specs.Syntax.{Ty, Tm}
use Rattle.hyps.proofs.Seeking.{members}
use Rattle.workspace.proofs.Freeness.{Looking}
use Rattle.workspace.proofs.lists.free_in_none.Given as goal

-- the terms passed do not have the variable free
abbrev pub invariant-loop-h : goal.invariant-loop-h
invariant-loop-h g l =
    let s = g.S.Store.state l.initial.store in
    (y : Word) (b : Ty) (us : List Tm) → s.contents.word l.x ≡ some y → s.contents.typ l.a ≡ some b → s.contents.terms l.hs ≡ some us → Looking s (g.S.Store.state l.store) y b us l.rest

abbrev pub decreases-loop-h : goal.decreases-loop-h
decreases-loop-h g l = members (g.S.Store.state l.store).contents l.rest
