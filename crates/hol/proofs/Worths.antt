-- What the terms are worth that rules build: abstractions, beta, eta, choice, terms and types for variables.
use Rattle.std.proofs.Common.{◌≡◌, ℕ, ◌<◌, true, false, [], ◌∷◌, sym, refl, ap, ◌∙◌, inl, inr}
use Rattle.hol.specs.Base.{Word, all}
use Rattle.hol.specs.Syntax.{Ty, Tm, bvar, const, app, lam, w_choice, bool, fun, one, same_var, open_at, abstract, free_in, TySubst, inst_tm, Subst, subst_tm}
use Rattle.hol.specs.Theory.{Theory, ok_ty}
use Rattle.hol.specs.Kernel.{ok_entry}
use Rattle.hol.specs.Models.{Model, Cards, Values, card_ty, digit, encode, value, consts, Valuation}
use Rattle.hol.specs.Says.{Wf}
use Rattle.hol.proofs.Tools.{decided, clash}
use Rattle.hol.proofs.Equality.{var_eq}
use Rattle.hol.proofs.Typing.{Has, choice_has, has_app}
use Rattle.hol.proofs.TypeSubst.{OkSubst}
use Rattle.hol.proofs.Codes.{digit-encode, encode-digit, least_true, code_choice_at}
use Rattle.hol.proofs.Cards.{card_pos, subst_cards}
use Rattle.hol.proofs.Denotes.{Denotes, den_bvar, den_app, den_lam, beside_nil, beside_cons, denotes, fits-nil, fits-cons, denotes_lt}
use Rattle.hol.proofs.Binding.{more-any, one_only, update, denotes_more, denotes_open, denotes_close}
use Rattle.hol.proofs.Instances.{subst_values, denotes_subst, inst_values, denotes_inst}
use Rattle.hol.proofs.Depends.{denotes_free}
use Rattle.hol.proofs.Constants.{consts_fit}
use Rattle.hol.proofs.Truths.{worth, denotes_worth, worth_is, worth_lt, app_worth}

pub update_valuation : {m : Model} {z : Cards} {w : Values} (x : Word) (a : Ty) (n : ℕ) → n < card_ty m z a → Valuation m z w
    → Valuation m z (update w x a n)
update_valuation {m} {z} {w} x a n l v =
    record {
      inhabited = v.inhabited;
      fits = λ y b. elim (decided (same_var x a y b)) [
        | inl e ↦ rw (e, ← (var_eq x a y b e).1) l
        | inr e ↦ rw e (v.fits y b)
      ];
    }

-- a variable that is not free in t may be given any value
not_free : (w : Values) (t : Tm) (x : Word) (b : Ty) (n : ℕ) → free_in x b t ≡ false
    → (y : Word) (c : Ty) → free_in y c t ≡ true → update w x b n y c ≡ w y c
not_free w t x b n f y c h = elim (decided (same_var x b y c)) [
  | inl e ↦ let (p, q) = var_eq x b y c e in clash h (rw (p, q) at f)
  | inr e ↦ rw e
]

module _ {th : Theory} {m : Model} {z : Cards} {w : Values} (wf : Wf th) (v : Valuation m z w) where
  pub update_worth : {t : Tm} {a : Ty} (x : Word) (b : Ty) (n : ℕ) → free_in x b t ≡ false → Has th [] t a
      → worth th m z (update w x b n) t ≡ worth th m z w t
  update_worth {t} x b n f h = sym (worth_is wf v (denotes_free (not_free w t x b n f) (denotes beside_nil h)))

  pub abstract_worth : {s : Tm} {b : Ty} (x : Word) (a : Ty) → ok_ty th a ≡ true → Has th [] s b
      → worth th m z w (abstract x a s) ≡ encode (card_ty m z b) (λ n. worth th m z (update w x a n) s) (card_ty m z a)
  abstract_worth x a o s = worth_is wf v (den_lam o (λ n. denotes_close x one_only (denotes beside_nil s)))

  pub beta_worth : {a b : Ty} {t s : Tm} → ok_ty th a ≡ true → Has th (a ∷ []) t b → Has th [] s a
      → worth th m z w (app (lam a t) s) ≡ worth th m z w (open_at 0 s t)
  beta_worth {a} {b} {t} {s} o t_has s_has =
      worth_is wf v (den_app (den_lam o body) (denotes_worth wf v s_has))
      ∙ digit-encode (card_ty m z b) _ (card_ty m z a) (worth th m z w s) small (worth_lt wf v s_has)
      ∙ sym (worth_is wf v (denotes_open (denotes_worth wf v s_has) one_only (body (worth th m z w s))))
    where
      at : ℕ → ℕ
      at n = value th m (consts m th) z w (a ∷ []) (n ∷ []) t

      body : (n : ℕ) → Denotes th m (consts m th) z w (a ∷ []) (n ∷ []) t b (at n)
      body n = denotes (beside_cons beside_nil) t_has

      small : (n : ℕ) → n < card_ty m z a → at n < card_ty m z b
      small n l = denotes_lt v (consts_fit wf v.inhabited) (fits-cons l fits-nil) (body n)

  pub eta_worth : {t : Tm} {a b : Ty} → ok_ty th a ≡ true → Has th [] t (fun a b)
      → worth th m z w (lam a (app t (bvar 0))) ≡ worth th m z w t
  eta_worth {t} {a} {b} o h =
      worth_is wf v (den_lam o (λ n. den_app (denotes_more more-any (denotes_worth wf v h)) (den_bvar {n = 0} refl refl)))
      ∙ encode-digit (card_ty m z b) (worth th m z w t) (card_ty m z a) (card_pos m z v.inhabited b) (worth_lt wf v h)

  -- where p holds of x, it holds of what is chosen for it
  pub choice_worth : {p x : Tm} {a : Ty} → ok_ty th a ≡ true → Has th [] p (fun a bool) → Has th [] x a
      → worth th m z w (app p x) ≡ 1 → worth th m z w (app p (app (const w_choice (one a)) p)) ≡ 1
  choice_worth {p} {x} {a} o p_has x_has e =
      let n = card_ty m z a in
      let code = worth th m z w p in
      let pos = card_pos m z v.inhabited a in
      let chosen = app_worth wf v (choice_has o) p_has ∙ code_choice_at n code pos (worth_lt wf v p_has) in
      app_worth wf v p_has (has_app (choice_has o) p_has) ∙ ap (digit 2 code) chosen
      ∙ least_true code n (worth th m z w x) (worth_lt wf v x_has) (sym (app_worth wf v p_has x_has) ∙ e)

  -- with terms for variables it is worth what it is worth where the variables are worth what the terms are
  pub subst_worth : {t : Tm} {a : Ty} (es : Subst) → all (ok_entry th) es ≡ true → Has th [] t a
      → worth th m z w (subst_tm es t) ≡ worth th m z (subst_values th m (consts m th) z w es) t
  subst_worth es ok t = worth_is wf v (denotes_subst es ok (denotes beside_nil t))

  pub inst_worth : {t : Tm} {a : Ty} (es : TySubst) → OkSubst th es → Has th [] t a
      → worth th m z w (inst_tm es t) ≡ worth th m (subst_cards m z es) (inst_values w es) t
  inst_worth es ok t = worth_is wf v (denotes_inst es ok (denotes beside_nil t))
