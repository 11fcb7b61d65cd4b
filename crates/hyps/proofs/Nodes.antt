-- How many nodes lists of terms have.
use Rattle.std.proofs.Common.{◌≡◌, ◌+◌, ◌≤◌, List, [], ◌∷◌, reverse, length, arith}
use mathlib.Core.List.{reverse_aux}
use Rattle.hol.specs.Syntax.{Tm}
use Rattle.hol.proofs.Tools.{In, here, there}
use Rattle.store.specs.Measures.{nodes_tm, nodes_tms}

-- each term takes a node at least
pub length-nodes : (us : List Tm) → length us ≤ nodes_tms us
length-nodes [] = omega arith
length-nodes (u ∷ us) = let h = length-nodes us in omega arith

-- a member has fewer nodes than the list
pub member_nodes : {w : Tm} {vs : List Tm} → In w vs → 1 + nodes_tm w ≤ nodes_tms vs
member_nodes here = omega arith
member_nodes (there i) = let h = member_nodes i in omega arith

nodes_turned : (us vs : List Tm) → nodes_tms (reverse_aux us vs) ≡ nodes_tms us + nodes_tms vs
nodes_turned [] vs = omega arith
nodes_turned (u ∷ us) vs = let h = nodes_turned us (u ∷ vs) in omega arith

pub nodes-reverse : (us : List Tm) → nodes_tms (reverse us) ≡ nodes_tms us
nodes-reverse us = let h = nodes_turned us [] in omega arith
