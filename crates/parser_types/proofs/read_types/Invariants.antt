-- The list that will have been read stays the same, and so does what it costs.
use Rattle.lent.specs.Piles.{pile_of}
use Rattle.std.proofs.Common.{◌≡◌, List, ◌∷◌, ◌++◌}
use Rattle.hol.specs.Text.{Token, closes, Sexps}
use Rattle.reader.specs.Flat.{flats}
use Rattle.reader.specs.Next.{stream}
use Rattle.parser_types.specs.Machine.{load}
use Rattle.parser_types.proofs.Loop.{Way}
use Rattle.parser_types.proofs.read_types.Given as goal

abbrev pub invariant-loop-turn : goal.invariant-loop-turn
invariant-loop-turn g l =
    ((pile_of l.pending).capacity ≡ (pile_of l.initial.pending).capacity) × ((us : Sexps) (qs : List Token) → stream l.initial.tokens ≡ flats us ++ (closes ∷ qs)
    → Way (g.S.Store.state l.initial.store) (g.S.Store.state l.store) (pile_of l.pending).held (stream l.tokens) qs us l.turn)

abbrev pub decreases-loop-turn : goal.decreases-loop-turn
decreases-loop-turn g l = load l.turn (pile_of l.pending).held (stream l.tokens)
