-- Terms built anew: a change of the leaves, which may depend on how many λs are around, and of the types of λs. Opening, closing and
-- both substitutions are such changes.
use Rattle.std.specs.Prelude.{ℕ, ◌+◌, Bool, true, false}
use Rattle.hol.specs.Base.{Word}
use Rattle.hol.specs.Syntax.{Ty, Tm, fvar, bvar, const, app, lam, TySubst, subst_ty, inst_tm, open_at, close_at, Subst, subst_tm}

--   leaf n u   what becomes of the leaf u under n λs
--   typ a      what becomes of the type of a λ
pub record Change : Type 0 where
  pub leaf : ℕ → Tm → Tm
  pub typ : Ty → Ty

-- the term with this change, under n λs
abbrev pub rebuilt : Change → ℕ → Tm → Tm
rebuilt F n (fvar x a) = F.leaf n (fvar x a)
rebuilt F n (bvar k) = F.leaf n (bvar k)
rebuilt F n (const c as₁) = F.leaf n (const c as₁)
rebuilt F n (app f x) = app (rebuilt F n f) (rebuilt F n x)
rebuilt F n (lam a t) = lam (F.typ a) (rebuilt F (n + 1) t)

abbrev pub is_leaf : Tm → Bool
is_leaf (fvar x a) = true
is_leaf (bvar k) = true
is_leaf (const c as₁) = true
is_leaf (app f x) = false
is_leaf (lam a t) = false

-- the four changes
abbrev pub opening : Tm → Change
opening s = record { leaf = λ n u. open_at n s u; typ = λ a. a }

abbrev pub closing : Word → Ty → Change
closing y b = record { leaf = λ n u. close_at n y b u; typ = λ a. a }

abbrev pub substituting : Subst → Change
substituting es = record { leaf = λ n u. subst_tm es u; typ = λ a. a }

abbrev pub instantiating : TySubst → Change
instantiating es = record { leaf = λ n u. inst_tm es u; typ = subst_ty es }
