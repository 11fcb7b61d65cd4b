-- The term that will have been read stays the same, and so does what it costs.
use Rattle.lent.specs.Piles.{pile_of}
use Rattle.std.proofs.Common.{◌≡◌, ℕ, ◌≤◌, List, [], ◌∷◌, ◌++◌}
use mathlib.Core.Option.{none}
use Rattle.hol.specs.Text.{Token, closes, Sexp, read_term}
use Rattle.reader.specs.Flat.{flat, cost, depth}
use Rattle.reader.specs.Next.{stream}
use Rattle.parser.specs.Machine.{load}
use Rattle.parser.proofs.Loop.{WayOn}
use Rattle.parser.proofs.term.read_term.Given as goal

abbrev pub invariant-loop-turn : goal.invariant-loop-turn
invariant-loop-turn g l =
    ((pile_of l.pending).capacity ≡ (pile_of l.initial.pending).capacity) × ((pile_of l.names).capacity ≡ (pile_of l.initial.names).capacity)
    × ((n : ℕ) (u : Sexp) (qs : List Token) → stream l.initial.tokens ≡ flat u ++ qs → depth u ≤ n
    → WayOn (g.S.Store.state l.initial.store) (g.S.Store.state l.store) (pile_of l.pending).held (pile_of l.names).held (stream l.tokens) qs
    (read_term n [] u) (cost u) l.turn)
    × ((qs : List Token) → stream l.initial.tokens ≡ closes ∷ qs
    → WayOn (g.S.Store.state l.initial.store) (g.S.Store.state l.store) (pile_of l.pending).held (pile_of l.names).held (stream l.tokens) qs
    none 0 l.turn)

abbrev pub decreases-loop-turn : goal.decreases-loop-turn
decreases-loop-turn g l = load l.turn (pile_of l.pending).held (stream l.tokens)
