-- Images of terms, each once: how much room is needed at the peak.
use Rattle.std.proofs.Common.{◌≡◌, ℕ, ◌+◌, ◌*◌, ◌<◌, ◌≤◌, List, ◌∷◌, length, ap, inl, inr, arith}
use Rattle.hol.specs.Syntax.{Tm}
use Rattle.hol.specs.Kernel.{in_hyps}
use Rattle.hol.proofs.Tools.{decided}
use Rattle.hol.proofs.Equality.{in_terms}
use Rattle.store.specs.Measures.{nodes_tm, nodes_tms}
use Rattle.store.specs.State.{State}
use Rattle.lent.specs.Piles.{Pile, spare}
use Rattle.hyps.specs.Sifting.{put}
use Rattle.hyps.proofs.Spreading.{stand_length}
use Rattle.hyps.proofs.Nodes.{length-nodes, member_nodes}
use Rattle.hyps.proofs.Gathering.{Gathering, taken, nodes-poured}

-- a term and the list so far: whether or not the term is new, no more than twice what comes of them
peak : (w : Tm) (vs : List Tm) → 1 + nodes_tm w + nodes_tms vs ≤ 2 * nodes_tms (put in_hyps w vs)
peak w vs = elim (decided (in_hyps w vs)) [
  | inl e ↦ let h = member_nodes (in_terms w vs e) in rw e (omega arith)
  | inr e ↦ rw e (omega arith)
]

module _ (f : Tm → Tm) {s t : State} {us : List Tm} {hs : List ℕ} {m n : ℕ} {ns : List ℕ} {goal : List Tm}
    (k : Gathering in_hyps f s t us hs n goal) (pop : hs ≡ m ∷ ns) where
  -- no room in the store for the image
  pub no_nodes : t.left < 1 + nodes_tm (f (taken in_hyps f k pop).first) → s.left < 2 * nodes_tms goal
  no_nodes h =
      let v = taken in_hyps f k pop in
      let a = peak (f v.first) k.list in
      let b = nodes-poured in_hyps f v.rest (put in_hyps (f v.first) k.list) in
      let c = k.grows.cost in
      let e = ap nodes_tms (rw v.is at k.ends) in
      omega arith

  -- no room for it above the stack q, on which the others still lie
  pub no_words : (q : Pile) → ns ≡ q.held → spare q < 4 * nodes_tm (taken in_hyps f k pop).first → q.capacity < 5 * nodes_tms us
  no_words q e h =
      let v = taken in_hyps f k pop in
      let a = stand_length v.rest_are in
      let b = ap length e in
      let c = length-nodes v.rest in
      let d = k.fewer in
      let i = ap nodes_tms v.is in
      omega arith
