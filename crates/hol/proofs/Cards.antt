-- Cardinalities of types: they are positive, and with types for type variables they come from those of these types.
use Rattle.std.proofs.Common.{◌≡◌, ℕ, ◌<◌, List, [], ◌∷◌, refl, ap, ap₂, inl, inr, arith}
use native.Mathlib.Nat.{one-le-pow}
use Rattle.hol.specs.Base.{Word, same_word}
use Rattle.hol.specs.Syntax.{Ty, tyvar, tyapp, Tys, tnil, tcons, w_bool, TySubst, subst_ty, subst_tys}
use Rattle.hol.specs.Models.{Model, Cards, card_app, card_ty, card_tys, cards_of}
use Rattle.hol.proofs.Tools.{decided}

-- POSITIVE
pub data Positive : List ℕ → Type 0 where
  p_nil : Positive []
  p_cons : {n : ℕ} {ns : List ℕ} → 0 < n → Positive ns → Positive (n ∷ ns)

card_app_pos : (m : Model) (c : Word) {ns : List ℕ} → Positive ns → 0 < card_app m c ns
card_app_pos m c p_nil = elim (decided (same_word c w_bool)) [ inl e ↦ rw e (omega arith) | inr e ↦ rw e (omega arith) ]
card_app_pos m c (p_cons h p_nil) = omega arith
card_app_pos m c (p_cons {n = a} h (p_cons {n = b} k p_nil)) = one-le-pow a b k
card_app_pos m c (p_cons h (p_cons k (p_cons l p))) = omega arith

module _ (m : Model) (z : Cards) (pos : (a : Word) → 0 < z a) where
  mutual
    pub card_pos : (a : Ty) → 0 < card_ty m z a
    card_pos (tyvar a) = pos a
    card_pos (tyapp c as₁) = card_app_pos m c (cards_pos as₁)

    pub cards_pos : (as₁ : Tys) → Positive (card_tys m z as₁)
    cards_pos tnil = p_nil
    cards_pos (tcons a as₁) = p_cons (card_pos a) (cards_pos as₁)

pub cards_of_pos : (ws : List Word) {ns : List ℕ} (x : Word) → Positive ns → 0 < cards_of ws ns x
cards_of_pos [] x p = omega arith
cards_of_pos (w ∷ ws) x p_nil = omega arith
cards_of_pos (w ∷ ws) x (p_cons h p) = elim (decided (same_word x w)) [ inl e ↦ rw e h | inr e ↦ rw e (cards_of_pos ws x p) ]

-- TYPE SUBSTITUTION: the cardinalities that it gives to type variables
abbrev pub subst_cards : Model → Cards → TySubst → Cards
subst_cards m z es a = card_ty m z (subst_ty es (tyvar a))

module _ (m : Model) (z : Cards) (es : TySubst) where
  mutual
    pub card_subst : (a : Ty) → card_ty m z (subst_ty es a) ≡ card_ty m (subst_cards m z es) a
    card_subst (tyvar a) = refl
    card_subst (tyapp c as₁) = ap (card_app m c) (cards_subst as₁)

    pub cards_subst : (as₁ : Tys) → card_tys m z (subst_tys es as₁) ≡ card_tys m (subst_cards m z es) as₁
    cards_subst tnil = refl
    cards_subst (tcons a as₁) = ap₂ ◌∷◌ (card_subst a) (cards_subst as₁)
