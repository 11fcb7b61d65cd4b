use Rattle.lent.specs.Piles.{pile_of}
use Rattle.std.proofs.Common.{◌≡◌, List, length}
use mathlib.Core.Option.{some}
use Rattle.hol.specs.Syntax.{Tm}
use Rattle.hol.specs.Kernel.{in_hyps}
use Rattle.hyps.specs.Sifting.{Stand, poured}
use Rattle.hyps.proofs.Gathering.{Gathering}
use Rattle.hyps.proofs.images.gather_images.Given as goal

-- the images of what is still on the stack, put before the list so far, come to the list that is wanted
abbrev pub invariant-loop-t : goal.invariant-loop-t
invariant-loop-t g l =
    let s = g.S.Store.state l.initial.store in
    ((pile_of l.stack).capacity ≡ (pile_of l.initial.stack).capacity) × ((h : Tm → Tm) (us vs : List Tm) → g.M.TermMap.does l.map s.contents h
    → Stand s.contents (pile_of l.initial.stack).held us → s.contents.terms l.start ≡ some vs
    → Gathering in_hyps h s (g.S.Store.state l.store) us (pile_of l.stack).held l.list (poured in_hyps h us vs))

abbrev pub decreases-loop-t : goal.decreases-loop-t
decreases-loop-t g l = length (pile_of l.stack).held
