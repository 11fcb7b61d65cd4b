-- What a number stands for once its node was added, by the kind of the node.
use Rattle.std.proofs.Common.{◌≡◌, ℕ, []}
use mathlib.Core.Option.{some}
use Rattle.hol.specs.Syntax.{tyvar, tyapp, fvar, bvar, const, app, lam}
use Rattle.store.specs.Builds.{IsTyvar, IsTyapp, IsTypes, IsFree, IsBound, IsConst, IsApp, IsLam, IsTerms}
use Rattle.store.specs.State.{Contents}
use Rattle.nodes.specs.declared.kind.Kind.TheVariants.{TypeVariable, TypeNamed, TypeCell, Free, Bound, Constant, Apply, Lambda, TermCell}
use Rattle.nodes.specs.Items.{ty, tys, tm, tms}
use Rattle.nodes.specs.Meaning.{IsMade}
use Rattle.nodes.proofs.Made.{made_at, m_tyvar, m_tyapp, m_tys, m_free, m_bound, m_const, m_app, m_lam, m_tms}

-- a node of x and y in the contents c, with the number k
module _ (c : Contents) (x y k : ℕ) where
  pub is_tyvar : c.word y ≡ some [] → IsMade TypeVariable x y c k → IsTyvar x c k
  is_tyvar z h w p = h (ty (tyvar w)) (made_at c x y (m_tyvar z p))

  pub is_tyapp : IsMade TypeNamed x y c k → IsTyapp x y c k
  is_tyapp h w bs p q = h (ty (tyapp w bs)) (made_at c x y (m_tyapp p q))

  pub is_types : IsMade TypeCell x y c k → IsTypes x y c k
  is_types h b bs p q = h (tys b bs) (made_at c x y (m_tys p q))

  pub is_free : IsMade Free x y c k → IsFree x y c k
  is_free h w b p q = h (tm (fvar w b)) (made_at c x y (m_free p q))

  pub is_bound : c.word y ≡ some [] → IsMade Bound x y c k → IsBound x c k
  is_bound z h = h (tm (bvar x)) (made_at c x y (m_bound z))

  pub is_const : IsMade Constant x y c k → IsConst x y c k
  is_const h w bs p q = h (tm (const w bs)) (made_at c x y (m_const p q))

  pub is_app : IsMade Apply x y c k → IsApp x y c k
  is_app h s t p q = h (tm (app s t)) (made_at c x y (m_app p q))

  pub is_lam : IsMade Lambda x y c k → IsLam x y c k
  is_lam h b t p q = h (tm (lam b t)) (made_at c x y (m_lam p q))

  pub is_terms : IsMade TermCell x y c k → IsTerms x y c k
  is_terms h t ts p q = h (tms t ts) (made_at c x y (m_tms p q))
