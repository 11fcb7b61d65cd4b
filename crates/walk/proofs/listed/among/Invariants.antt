use Rattle.std.proofs.Common.{◌≡◌, List}
use mathlib.Core.Option.{some}
use Rattle.hol.specs.Base.{Word}
use Rattle.store.specs.State.{Stays}
use Rattle.walk.specs.Standing.{Names}
use Rattle.walk.proofs.NameLists.{Seeking}
use Rattle.walk.proofs.listed.among.Given as goal

-- none of the names before `other` is the one that is looked for
abbrev pub invariant-loop-other : goal.invariant-loop-other
invariant-loop-other g l =
    Stays (g.S.Store.state l.initial.store) (g.S.Store.state l.store)
    × ((w : Word) (ws : List Word) → (g.S.Store.state l.initial.store).contents.word l.name ≡ some w
    → Names (g.S.Store.state l.initial.store).contents l.names ws
    → Seeking (g.S.Store.state l.initial.store).contents w ws l.names l.other-index)
