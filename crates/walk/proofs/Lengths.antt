-- A type or a term adds no more names than it has nodes.
use Rattle.std.proofs.Common.{◌+◌, ◌≤◌, List, length, inl, inr, arith}
use Rattle.std.proofs.lemmas.List.{length_push}
use Rattle.hol.specs.Base.{Word, among}
use Rattle.hol.specs.Syntax.{Ty, tyvar, tyapp, Tys, tnil, tcons, insert, tyvars_ty, tyvars_tys}
use Rattle.hol.proofs.Tools.{decided}
use Rattle.store.specs.Measures.{nodes_ty, nodes_tys}

pub insert-length : (w : Word) (ws : List Word) → length (insert w ws) ≤ length ws + 1
insert-length w ws = elim (decided (among w ws)) [ inl t ↦ rw t (omega arith) | inr f ↦ rw f (omega (arith, length_push ws w)) ]

mutual
  pub type_length : (a : Ty) (ws : List Word) → length (tyvars_ty a ws) ≤ length ws + nodes_ty a
  type_length (tyvar w) ws = insert-length w ws
  type_length (tyapp c as₁) ws = let h = types-length as₁ ws in omega arith

  pub types-length : (as₁ : Tys) (ws : List Word) → length (tyvars_tys as₁ ws) ≤ length ws + nodes_tys as₁
  types-length tnil ws = omega arith
  types-length (tcons a as₁) ws = let h = type_length a ws in let k = types-length as₁ (tyvars_ty a ws) in omega arith
