-- What terms denote with terms for their free variables, and with types for their type variables.
use Rattle.std.proofs.Common.{◌≡◌, ℕ, ◌<◌, true, List, [], ◌∷◌, map, inl, inr}
use Rattle.hol.specs.Base.{Word, all}
use Rattle.hol.specs.Syntax.{Ty, tyvar, Tm, TySubst, subst_ty, inst_tm, same_var, Subst, find_tm, subst_tm}
use Rattle.hol.specs.Theory.{Theory, ok_ty}
use Rattle.hol.specs.Kernel.{ok_entry}
use Rattle.hol.specs.Models.{Model, Consts, Cards, Values, card_ty, value, Valuation}
use Rattle.hol.proofs.Tools.{decided, both}
use Rattle.hol.proofs.Equality.{var_eq}
use Rattle.hol.proofs.Typing.{of_type}
use Rattle.hol.proofs.TypeSubst.{OkSubst, subst_ok, const_subst, nth-map}
use Rattle.hol.proofs.Contexts.{find_has}
use Rattle.hol.proofs.Cards.{card_pos, subst_cards, card_subst, cards_subst}
use Rattle.hol.proofs.Denotes.{Denotes, den_fvar, den_bvar, den_const, den_app, den_lam, beside_nil, denotes, fits-nil, ConstsFit, denotes_lt}
use Rattle.hol.proofs.Binding.{more-any, denotes_more}

-- TERMS FOR FREE VARIABLES. A free variable is worth what the term is worth that is put for it.
abbrev pub subst_values : Theory → Model → Consts → Cards → Values → Subst → Values
subst_values th m k z w es x a = value th m k z w [] [] (find_tm es x a)

module _ {th : Theory} {m : Model} {k : Consts} {z : Cards} {w : Values} (es : Subst) (ok : all (ok_entry th) es ≡ true) where
  pub denotes_subst : {g : List Ty} {vs : List ℕ} {t : Tm} {a : Ty} {n : ℕ}
      → Denotes th m k z (subst_values th m k z w es) g vs t a n → Denotes th m k z w g vs (subst_tm es t) a n
  denotes_subst (den_fvar {x = x} {a = a} o) = denotes_more more-any (denotes beside_nil (find_has es x a ok o))
  denotes_subst (den_bvar e q) = den_bvar e q
  denotes_subst (den_const e) = den_const e
  denotes_subst (den_app f x) = den_app (denotes_subst f) (denotes_subst x)
  denotes_subst (den_lam o t) = den_lam o (λ n. denotes_subst (t n))

module _ {th : Theory} {m : Model} {k : Consts} {z : Cards} {w : Values} (v : Valuation m z w) (fit : ConstsFit th m k z) where
  subst_fits : (es : Subst) → all (ok_entry th) es ≡ true → (x : Word) (a : Ty) → subst_values th m k z w es x a < card_ty m z a
  subst_fits [] ok x a = v.fits x a
  subst_fits (e ∷ es) ok x a = elim (decided (same_var x a e.name e.ty)) [
    | inl s ↦
        let typed = of_type th e.tm e.ty (both (ok_ty th e.ty) _ (both _ _ ok).0).1 in
        rw (s, (var_eq x a e.name e.ty s).1) (denotes_lt v fit fits-nil (denotes beside_nil typed))
    | inr s ↦ rw s (subst_fits es (both _ _ ok).1 x a)
  ]

  pub subst_valuation : (es : Subst) → all (ok_entry th) es ≡ true → Valuation m z (subst_values th m k z w es)
  subst_valuation es ok = record { inhabited = v.inhabited; fits = subst_fits es ok }

-- TYPES FOR TYPE VARIABLES. A free variable is worth what it is worth at its new type.
abbrev pub inst_values : Values → TySubst → Values
inst_values w es x a = w x (subst_ty es a)

pub inst_valuation : {m : Model} {z : Cards} {w : Values} → Valuation m z w → (es : TySubst)
    → Valuation m (subst_cards m z es) (inst_values w es)
inst_valuation {m} {z} {w} v es =
    record {
      inhabited = λ a. card_pos m z v.inhabited (subst_ty es (tyvar a));
      fits = λ x a. rw (← card_subst m z es a) (v.fits x (subst_ty es a));
    }

module _ {th : Theory} {m : Model} {k : Consts} {z : Cards} {w : Values} (es : TySubst) (ok : OkSubst th es) where
  pub denotes_inst : {g : List Ty} {vs : List ℕ} {t : Tm} {a : Ty} {n : ℕ}
      → Denotes th m k (subst_cards m z es) (inst_values w es) g vs t a n
      → Denotes th m k z w (map (subst_ty es) g) vs (inst_tm es t) (subst_ty es a) n
  denotes_inst (den_fvar {a = a} o) = den_fvar (subst_ok th es ok a o)
  denotes_inst (den_bvar {g = g} {n = n} e q) = den_bvar (nth-map (subst_ty es) g n e) q
  denotes_inst (den_const {c = c} {as₁ = as₁} e) = rw (← cards_subst m z es as₁) (den_const (const_subst th es ok c as₁ e))
  denotes_inst (den_app {b = b} f x) = rw (← card_subst m z es b) (den_app (denotes_inst f) (denotes_inst x))
  denotes_inst (den_lam {a = a} {b = b} o t) =
      rw (← card_subst m z es a, ← card_subst m z es b) (den_lam (subst_ok th es ok a o) (λ n. denotes_inst (t n)))
