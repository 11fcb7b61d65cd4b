-- How many nodes types, terms and lists of them take as trees, without sharing. Names are not counted: a node that is built anew
-- takes its name from an old one.
use Rattle.std.specs.Prelude.{ℕ, ◌+◌, ◌-◌, ◌^◌, min, List, [], ◌∷◌}
use Rattle.hol.specs.Syntax.{Ty, tyvar, tyapp, Tys, tnil, tcons, Tm, fvar, bvar, const, app, lam}

-- a type variable is a node; so is a named type, and a cell for each of its arguments
abbrev mutual
  pub nodes_ty : Ty → ℕ
  nodes_ty (tyvar a) = 1
  nodes_ty (tyapp c as₁) = 1 + nodes_tys as₁

  pub nodes_tys : Tys → ℕ
  nodes_tys tnil = 0
  nodes_tys (tcons a as₁) = 1 + (nodes_ty a + nodes_tys as₁)

abbrev pub nodes_tm : Tm → ℕ
nodes_tm (fvar x a) = 1 + nodes_ty a
nodes_tm (bvar n) = 1
nodes_tm (const c as₁) = 1 + nodes_tys as₁
nodes_tm (app f x) = 1 + (nodes_tm f + nodes_tm x)
nodes_tm (lam a t) = 1 + (nodes_ty a + nodes_tm t)

abbrev pub nodes_tms : List Tm → ℕ
nodes_tms [] = 0
nodes_tms (t ∷ ts) = 1 + (nodes_tm t + nodes_tms ts)

-- a number of nodes as a word of 64 bits holds it: the largest word stands for itself and all above
abbrev pub capped : ℕ → ℕ
capped n = min n (2 ^ 64 - 1)
