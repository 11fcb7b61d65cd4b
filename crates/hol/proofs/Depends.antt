-- What a term denotes depends only on the free variables and the type variables that it has.
use Rattle.std.proofs.Common.{◌≡◌, ℕ, zero, suc, true, List, [], ◌∷◌, sym, refl, subst}
use mathlib.Core.Option.{some}
use Rattle.hol.specs.Base.{Word, nth}
use Rattle.hol.specs.Syntax.{Ty, Tm, free_in, closed}
use Rattle.hol.specs.Theory.{Theory}
use Rattle.hol.specs.Models.{Model, Consts, Cards, Values}
use Rattle.hol.proofs.Tools.{clash, both, and_both, or_first, or_second, some_same, none_some}
use Rattle.hol.proofs.Equality.{word_refl, ty_refl}
use Rattle.hol.proofs.Typing.{Has, has_fvar, has_bvar, has_const, has_app, has_lam}
use Rattle.hol.proofs.TypeSubst.{const_is}
use Rattle.hol.proofs.TypeVars.{AllVars, AllVarsTm, card_same, cards_same, at_vars}
use Rattle.hol.proofs.Denotes.{Denotes, den_fvar, den_bvar, den_const, den_app, den_lam, denotes_has}

-- FREE VARIABLES that do not appear may be worth anything
module _ {th : Theory} {m : Model} {k : Consts} {z : Cards} {w u : Values} where
  pub denotes_free : {g : List Ty} {vs : List ℕ} {t : Tm} {a : Ty} {n : ℕ}
      → ((x : Word) (b : Ty) → free_in x b t ≡ true → w x b ≡ u x b) → Denotes th m k z w g vs t a n
      → Denotes th m k z u g vs t a n
  denotes_free same (den_fvar {x = x} {a = a} o) = rw (same x a (and_both (word_refl x) (ty_refl a))) (den_fvar o)
  denotes_free same (den_bvar e q) = den_bvar e q
  denotes_free same (den_const e) = den_const e
  denotes_free same (den_app f x) =
      den_app (denotes_free (λ y b h. same y b (or_first _ h)) f) (denotes_free (λ y b h. same y b (or_second _ h)) x)
  denotes_free same (den_lam o t) = den_lam o (λ n. denotes_free same (t n))

-- TYPE VARIABLES. P holds of those of each type.
pub data VarsIn (P : Word → Type 0) : List Ty → Type 0 where
  vars_nil : VarsIn P []
  vars_cons : {g : List Ty} {a : Ty} → AllVars P a → VarsIn P g → VarsIn P (a ∷ g)

vars_at : {P : Word → Type 0} {g : List Ty} (n : ℕ) {a : Ty} → VarsIn P g → nth g n ≡ some a → AllVars P a
vars_at n vars_nil e = none_some e
vars_at {P} zero (vars_cons p s) e = subst (AllVars P) (some_same e) p
vars_at (suc n) (vars_cons p s) e = vars_at n s e

-- the type of a term has only type variables of the term and of the λs around it
has_vars : {th : Theory} (P : Word → Type 0) {g : List Ty} {t : Tm} {a : Ty} → VarsIn P g → AllVarsTm P t → Has th g t a
    → AllVars P a
has_vars P s p (has_fvar o) = p
has_vars P s p (has_bvar {n = n} e) = vars_at n s e
has_vars {th} P s p (has_const {c = c} {as₁ = as₁} e) =
    let i = const_is th c as₁ e in
    subst (AllVars P) (sym i.is) (at_vars i.ty as₁ i.count P p)
has_vars P s p (has_app f x) = (has_vars P s p.0 f).1.0
has_vars P s p (has_lam o t) = (p.0, (has_vars P (vars_cons p.0 s) p.1 t, tt))

-- those that do not appear may have any cardinality, and in a closed term free variables may be worth anything
module _ {th : Theory} {m : Model} {k : Consts} {z y : Cards} {w u : Values} where
  pub denotes_closed : {g : List Ty} {vs : List ℕ} {t : Tm} {a : Ty} {n : ℕ}
      → VarsIn (λ x. z x ≡ y x) g → AllVarsTm (λ x. z x ≡ y x) t → closed t ≡ true
      → Denotes th m k z w g vs t a n → Denotes th m k y u g vs t a n
  denotes_closed s p c (den_fvar o) = clash c refl
  denotes_closed s p c (den_bvar e q) = den_bvar e q
  denotes_closed s p c (den_const {as₁ = as₁} e) = rw (cards_same m z y as₁ p) (den_const e)
  denotes_closed s p c (den_app {b = b} f x) =
      rw (card_same m z y b (has_vars (λ v. z v ≡ y v) s p.0 (denotes_has f)).1.0)
      (den_app (denotes_closed s p.0 (both _ _ c).0 f) (denotes_closed s p.1 (both _ _ c).1 x))
  denotes_closed s p c (den_lam {a = a} {b = b} o t) =
      let s' = vars_cons p.0 s in
      rw (card_same m z y a p.0, card_same m z y b (has_vars (λ v. z v ≡ y v) s' p.1 (denotes_has (t 0))))
      (den_lam o (λ n. denotes_closed s' p.1 c (t n)))
