-- Nodes against sizes: what a type or a term takes in a store is less than twice its size. No typing is needed.
use Rattle.std.proofs.Common.{◌+◌, ◌*◌, ◌≤◌, List, [], ◌∷◌, arith}
use mathlib.Core.Option.{Option, some, none}
use Rattle.hol.specs.Syntax.{Ty, tyvar, tyapp, Tys, tnil, tcons, Tm, fvar, bvar, const, app, lam}
use Rattle.hol.specs.Theory.{Theory, const_at}
use Rattle.hol.specs.Base.{nth}
use Rattle.hol.specs.Weight.{size_ty, size_tys, size_var, size_tm, size_all}
use Rattle.store.specs.Measures.{nodes_ty, nodes_tys, nodes_tm, nodes_tms}

mutual
  pub nodes-size_ty : (a : Ty) → nodes_ty a + 1 ≤ 2 * size_ty a
  nodes-size_ty (tyvar a) = omega arith
  nodes-size_ty (tyapp c as₁) = let h = nodes-size_tys as₁ in omega arith

  pub nodes-size_tys : (as₁ : Tys) → nodes_tys as₁ ≤ 2 * size_tys as₁
  nodes-size_tys tnil = omega arith
  nodes-size_tys (tcons a as₁) = let h = nodes-size_ty a in let k = nodes-size_tys as₁ in omega arith

-- a variable or a constant counts at least 1, whatever its type
size_var_pos : (o : Option Ty) → 1 ≤ size_var o
size_var_pos none = omega arith
size_var_pos (some a) = omega arith

pub nodes-size_tm : (th : Theory) (g : List Ty) (t : Tm) → nodes_tm t + 1 ≤ 2 * size_tm th g t
nodes-size_tm th g (fvar x a) = let h = nodes-size_ty a in omega arith
nodes-size_tm th g (bvar n) = let h = size_var_pos (nth g n) in omega arith
nodes-size_tm th g (const c as₁) = let h = nodes-size_tys as₁ in let k = size_var_pos (const_at th c as₁) in omega arith
nodes-size_tm th g (app f x) = let h = nodes-size_tm th g f in let k = nodes-size_tm th g x in omega arith
nodes-size_tm th g (lam a t) = let h = nodes-size_ty a in let k = nodes-size_tm th (a ∷ g) t in omega arith

-- a list of terms, with its cells
pub nodes-size-tms : (th : Theory) (ts : List Tm) → nodes_tms ts ≤ 2 * size_all th ts
nodes-size-tms th [] = omega arith
nodes-size-tms th (t ∷ ts) = let h = nodes-size_tm th [] t in let k = nodes-size-tms th ts in omega arith
