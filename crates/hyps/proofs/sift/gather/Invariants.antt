use Rattle.lent.specs.Piles.{pile_of}
use Rattle.std.proofs.Common.{◌≡◌, Bool, List, length}
use mathlib.Core.Option.{some}
use Rattle.hol.specs.Syntax.{Tm}
use Rattle.hyps.specs.Sifting.{Stand, poured}
use Rattle.hyps.specs.Leaving.{Leaves}
use Rattle.hyps.proofs.Gathering.{Gathering}
use Rattle.hyps.proofs.sift.gather.Given as goal

-- what is still on the stack, put before the list so far, comes to the list that is wanted
abbrev pub invariant-loop-t : goal.invariant-loop-t
invariant-loop-t g l =
    let s = g.S.Store.state l.initial.store in
    (p : Tm → List Tm → Bool) (us vs : List Tm) → Leaves s.contents l.left_out p
    → Stand s.contents (pile_of l.initial.stack).held us → s.contents.terms l.start ≡ some vs
    → Gathering p (λ u. u) s (g.S.Store.state l.store) us (pile_of l.stack).held l.list (poured p (λ u. u) us vs)

abbrev pub decreases-loop-t : goal.decreases-loop-t
decreases-loop-t g l = length (pile_of l.stack).held
