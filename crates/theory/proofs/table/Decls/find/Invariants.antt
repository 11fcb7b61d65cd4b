-- The store stays, and the words that are left decide.
use Rattle.std.proofs.Common.{Bool, ◌≡◌, ◌≤◌, length, reverse}
use mathlib.Core.Option.{some}
use Rattle.hol.specs.Base.{Word}
use Rattle.hol.specs.Theory.{Decl, Theory}
use Rattle.store.specs.State.{Stays}
use Rattle.theory.specs.Knows.{Knows}
use Rattle.theory.specs.Lookups.{Picks}
use Rattle.theory.proofs.Looking.{Looking}
use Rattle.theory.proofs.table.Decls.find.Given as goal

abbrev pub invariant-loop-rest : goal.invariant-loop-rest
invariant-loop-rest g l =
    let c = (g.S.Store.state l.initial.store).contents in
    Stays (g.S.Store.state l.initial.store) (g.S.Store.state l.store)
    × ((wanted : Decl → Bool) (th : Theory) (w : Word) → Picks c (goal.F-post g l.part) wanted → Knows l.self c th → c.word l.name ≡ some w → Looking c (reverse l.rest) wanted w th)
    × (length l.rest ≤ length l.initial.rest)

abbrev pub decreases-loop-rest : goal.decreases-loop-rest
decreases-loop-rest g l = length l.rest
