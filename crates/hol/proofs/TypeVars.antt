-- The type variables of types and terms: which appear, and the cardinality of a type with types for all of them.
use Rattle.std.proofs.Common.{◌≡◌, true, List, [], ◌∷◌, length, refl, ap, ◌∙◌, ap₂, inl, inr, arith}
use Rattle.hol.specs.Base.{Word, same_word, among}
use Rattle.hol.specs.Syntax.{Ty, tyvar, tyapp, Tys, tnil, tcons, Tm, fvar, bvar, const, app, lam, count_tys, TySubst, subst_ty, subst_tys, tyvars_ty, tyvars_tm, zip}
use Rattle.hol.specs.Models.{Model, Cards, card_app, card_ty, card_tys, cards_of}
use Rattle.hol.proofs.Tools.{decided, clash}
use Rattle.hol.proofs.TypeSubst.{Covers, CoversAll, tyvars_keep, tyvars_all_keep, tyvars_cover, tyvars_cover_all}
use Rattle.hol.proofs.Cards.{subst_cards, card_subst}

-- P holds of each type variable that appears
abbrev mutual
  pub AllVars : (Word → Type 0) → Ty → Type 0
  AllVars P (tyvar a) = P a
  AllVars P (tyapp c as₁) = AllVars* P as₁

  pub AllVars* : (Word → Type 0) → Tys → Type 0
  AllVars* P tnil = Unit {0}
  AllVars* P (tcons a as₁) = AllVars P a × AllVars* P as₁

abbrev pub AllVarsTm : (Word → Type 0) → Tm → Type 0
AllVarsTm P (fvar x a) = AllVars P a
AllVarsTm P (bvar n) = Unit {0}
AllVarsTm P (const c as₁) = AllVars* P as₁
AllVarsTm P (app f x) = AllVarsTm P f × AllVarsTm P x
AllVarsTm P (lam a t) = AllVars P a × AllVarsTm P t

-- P holds of each that appears if it holds of each of ws, and those are all
module _ (P : Word → Type 0) (ws : List Word) (f : (x : Word) → among x ws ≡ true → P x) where
  mutual
    covered : (a : Ty) → Covers ws a → AllVars P a
    covered (tyvar a) h = f a h
    covered (tyapp c as₁) h = covered* as₁ h

    covered* : (as₁ : Tys) → CoversAll ws as₁ → AllVars* P as₁
    covered* tnil h = tt
    covered* (tcons a as₁) h = (covered a h.0, covered* as₁ h.1)

tyvars_tm_keep : (t : Tm) (ws : List Word) (x : Word) → among x ws ≡ true → among x (tyvars_tm t ws) ≡ true
tyvars_tm_keep (fvar y a) ws x h = tyvars_keep a ws x h
tyvars_tm_keep (bvar n) ws x h = h
tyvars_tm_keep (const c as₁) ws x h = tyvars_all_keep as₁ ws x h
tyvars_tm_keep (app s t) ws x h = tyvars_tm_keep t (tyvars_tm s ws) x (tyvars_tm_keep s ws x h)
tyvars_tm_keep (lam a t) ws x h = tyvars_tm_keep t (tyvars_ty a ws) x (tyvars_keep a ws x h)

-- P holds of each type variable of a term if it holds of each in their list
pub covered_tm : (P : Word → Type 0) (t : Tm) (ws : List Word) → ((x : Word) → among x (tyvars_tm t ws) ≡ true → P x)
    → AllVarsTm P t
covered_tm P (fvar y a) ws f = covered P (tyvars_ty a ws) f a (tyvars_cover a ws)
covered_tm P (bvar n) ws f = tt
covered_tm P (const c as₁) ws f = covered* P _ f as₁ (tyvars_cover_all as₁ ws)
covered_tm P (app s t) ws f =
    let vs = tyvars_tm s ws in
    (covered_tm P s ws (λ x h. f x (tyvars_tm_keep t vs x h)), covered_tm P t vs f)
covered_tm P (lam a t) ws f =
    let vs = tyvars_ty a ws in
    (covered P vs (λ x h. f x (tyvars_tm_keep t vs x h)) a (tyvars_cover a ws), covered_tm P t vs f)

-- the cardinalities of the variables that appear decide
module _ (m : Model) (z y : Cards) where
  mutual
    pub card_same : (a : Ty) → AllVars (λ x. z x ≡ y x) a → card_ty m z a ≡ card_ty m y a
    card_same (tyvar a) p = p
    card_same (tyapp c as₁) p = ap (card_app m c) (cards_same as₁ p)

    pub cards_same : (as₁ : Tys) → AllVars* (λ x. z x ≡ y x) as₁ → card_tys m z as₁ ≡ card_tys m y as₁
    cards_same tnil p = refl
    cards_same (tcons a as₁) p = ap₂ ◌∷◌ (card_same a p.0) (cards_same as₁ p.1)

-- TYPES FOR ALL of ws: the type variables of the one that stands for x, and its cardinality
zip_vars : (P : Word → Type 0) (ws : List Word) (as₁ : Tys) → count_tys as₁ ≡ length ws → AllVars* P as₁
    → (x : Word) → among x ws ≡ true → AllVars P (subst_ty (zip ws as₁) (tyvar x))
zip_vars P [] as₁ e p x h = clash h refl
zip_vars P (w ∷ ws) tnil e p x h = absurd (omega arith)
zip_vars P (w ∷ ws) (tcons a as₁) e p x h = elim (decided (same_word x w)) [
  | inl t ↦ rw t p.0
  | inr t ↦ rw t (zip_vars P ws as₁ (omega arith) p.1 x (rw t at h))
]

pub zip_card : (m : Model) (z : Cards) (ws : List Word) (as₁ : Tys) → count_tys as₁ ≡ length ws
    → (x : Word) → among x ws ≡ true → subst_cards m z (zip ws as₁) x ≡ cards_of ws (card_tys m z as₁) x
zip_card m z [] as₁ e x h = clash h refl
zip_card m z (w ∷ ws) tnil e x h = absurd (omega arith)
zip_card m z (w ∷ ws) (tcons a as₁) e x h = elim (decided (same_word x w)) [
  | inl t ↦ rw t
  | inr t ↦ rw t (zip_card m z ws as₁ (omega arith) x (rw t at h))
]

module _ (P : Word → Type 0) (es : TySubst) where
  mutual
    subst_vars : (a : Ty) → AllVars (λ x. AllVars P (subst_ty es (tyvar x))) a → AllVars P (subst_ty es a)
    subst_vars (tyvar a) p = p
    subst_vars (tyapp c as₁) p = subst_vars* as₁ p

    subst_vars* : (as₁ : Tys) → AllVars* (λ x. AllVars P (subst_ty es (tyvar x))) as₁ → AllVars* P (subst_tys es as₁)
    subst_vars* tnil p = tt
    subst_vars* (tcons a as₁) p = (subst_vars a p.0, subst_vars* as₁ p.1)

-- a type with types for all its type variables: its type variables are theirs, and its cardinality comes from theirs
module _ (a : Ty) (as₁ : Tys) (count : count_tys as₁ ≡ length (tyvars_ty a [])) where
  pub at_vars : (P : Word → Type 0) → AllVars* P as₁ → AllVars P (subst_ty (zip (tyvars_ty a []) as₁) a)
  at_vars P p =
      let ws = tyvars_ty a [] in
      let each = zip_vars P ws as₁ count p in
      subst_vars P (zip ws as₁) a (covered (λ x. AllVars P (subst_ty (zip ws as₁) (tyvar x))) ws each a (tyvars_cover a []))

  pub at_card : (m : Model) (z : Cards)
      → card_ty m z (subst_ty (zip (tyvars_ty a []) as₁) a) ≡ card_ty m (cards_of (tyvars_ty a []) (card_tys m z as₁)) a
  at_card m z =
      let ws = tyvars_ty a [] in
      card_subst m z (zip ws as₁) a ∙ card_same m _ _ a (covered _ ws (zip_card m z ws as₁ count) a (tyvars_cover a []))
