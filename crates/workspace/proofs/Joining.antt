-- The nodes of joined lists.
use Rattle.std.proofs.Common.{◌≤◌, List, [], ◌∷◌, inl, inr, arith}
use Rattle.hol.specs.Syntax.{Tm}
use Rattle.hol.specs.Kernel.{in_hyps, union}
use Rattle.hol.proofs.Tools.{decided}
use Rattle.store.specs.Measures.{nodes_tms}

-- the second list is part of the union
pub behind : (us vs : List Tm) → nodes_tms vs ≤ nodes_tms (union us vs)
behind [] vs = omega arith
behind (u ∷ us) vs =
    let h = behind us vs in
    elim (decided (in_hyps u vs)) [ inl t ↦ rw t h | inr f ↦ rw f (omega arith) ]
