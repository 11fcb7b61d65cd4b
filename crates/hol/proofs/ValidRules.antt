-- Each rule keeps validity: what it finds is valid in a model in which what it uses is. One lemma a rule.
use Rattle.std.proofs.Common.{◌≡◌, ℕ, ◌<◌, Bool, true, false, eqb, List, [], ◌∷◌, ◌++◌, map, sym, refl, ◌∙◌, ap₂, inl, inr, arith, eq-eqb, eqb-true}
use mathlib.Core.Option.{some}
use Rattle.std.proofs.lemmas.Bool.{cases_eq}
use Rattle.hol.specs.Base.{Word, all, any}
use Rattle.hol.specs.Syntax.{Ty, Tys, Tm, bvar, const, app, lam, same_tm, w_choice, bool, fun, one, equal, TySubst, inst_tm, tyvars_ty, zip, open_at, abstract, free_in, Subst, subst_tm}
use Rattle.hol.specs.Theory.{d_def, Theory, Declared, ok_ty, const_at}
use Rattle.hol.specs.Kernel.{in_hyps, remove, ok_entry}
use Rattle.hol.specs.Rules.{Within}
use Rattle.hol.specs.Models.{Model, card_ty, digit, consts, holds, Valid}
use Rattle.hol.specs.Says.{Wf}
use Rattle.hol.proofs.Tools.{decided, both, and_both, all_in, all_of, in_left, in_right, in_none}
use Rattle.hol.proofs.Equality.{tm_eq, in_terms}
use Rattle.hol.proofs.Typing.{Has, equal-parts, app-parts, lam-parts, fun-dom, fun-cod}
use Rattle.hol.proofs.TypeSubst.{OkSubst}
use Rattle.hol.proofs.OkTypes.{type_ok, dom_ok}
use Rattle.hol.proofs.Types.{SeqHas}
use Rattle.hol.proofs.Codes.{encode_ext}
use Rattle.hol.proofs.Cards.{subst_cards}
use Rattle.hol.proofs.Binding.{update}
use Rattle.hol.proofs.Instances.{subst_values, subst_valuation, inst_values, inst_valuation}
use Rattle.hol.proofs.Constants.{consts_fit}
use Rattle.hol.proofs.Definitions.{unfold_denotes}
use Rattle.hol.proofs.Truths.{worth, worth_is, worth_lt, app_worth, equal-holds, holds-equal, all-kept, all_map}
use Rattle.hol.proofs.Worths.{update_valuation, update_worth, abstract_worth, beta_worth, eta_worth, choice_worth, subst_worth, inst_worth}

-- ASSUMPTIONS: what holds of all holds of the parts; what holds of t and of the rest holds of all
all_left : (f : Tm → Bool) (hs gs : List Tm) → all f (hs ++ gs) ≡ true → all f hs ≡ true
all_left f hs gs e = all_of f hs (λ h i. all_in f e (in_left gs i))

all_right : (f : Tm → Bool) (hs gs : List Tm) → all f (hs ++ gs) ≡ true → all f gs ≡ true
all_right f hs gs e = all_of f gs (λ g i. all_in f e (in_right hs i))

all_remove : (f : Tm → Bool) (t : Tm) (hs : List Tm) → f t ≡ true → all f (remove t hs) ≡ true → all f hs ≡ true
all_remove f t [] p e = refl
all_remove f t (h ∷ hs) p e = elim (decided (same_tm t h)) [
  | inl s ↦ and_both (rw (tm_eq t h s) at p) (all_remove f t hs p (rw s at e))
  | inr s ↦ let (q, r) = both (f h) _ (rw s at e) in and_both q (all_remove f t hs p r)
]

-- a term holds where another does that is worth the same
holds_same : {p q : ℕ} → p ≡ q → eqb p 1 ≡ true → eqb q 1 ≡ true
holds_same e h = rw e at h

-- two values of bool that are 1 together are the same
same_bit : (p q : ℕ) → p < 2 → q < 2 → (p ≡ 1 → q ≡ 1) → (q ≡ 1 → p ≡ 1) → p ≡ q
same_bit p q l k f g = elim (cases_eq p 1) [
  | inl e ↦ e ∙ sym (f e)
  | inr e ↦ elim (cases_eq q 1) [ inl d ↦ g d ∙ sym d | inr d ↦ omega arith ]
]

module _ {th : Theory} (m : Model) (wf : Wf th) where
  -- EQUALITY
  pub refl_valid : {a : Ty} {t : Tm} → SeqHas th [] (equal a t t) → Valid th m [] (equal a t t)
  refl_valid r z w v h = equal-holds wf v r.concl refl

  pub trans_valid : {hs gs : List Tm} {a : Ty} {s t u : Tm} → SeqHas th hs (equal a s t) → SeqHas th gs (equal a t u)
      → SeqHas th (hs ++ gs) (equal a s u) → Valid th m hs (equal a s t) → Valid th m gs (equal a t u)
      → Valid th m (hs ++ gs) (equal a s u)
  trans_valid {hs} {gs} p q r f g z w v h =
      equal-holds wf v r.concl
      (holds-equal wf v p.concl (f z w v (all_left (holds th m z w) hs gs h))
      ∙ holds-equal wf v q.concl (g z w v (all_right (holds th m z w) hs gs h)))

  pub use_valid : {hs gs : List Tm} {a b : Ty} {f g x y : Tm} → SeqHas th hs (equal (fun a b) f g) → SeqHas th gs (equal a x y)
      → SeqHas th (hs ++ gs) (equal b (app f x) (app g y)) → Valid th m hs (equal (fun a b) f g) → Valid th m gs (equal a x y)
      → Valid th m (hs ++ gs) (equal b (app f x) (app g y))
  use_valid {hs} {gs} {b = b} p q r f g z w v h =
      let i = equal-parts p.concl in
      let j = equal-parts q.concl in
      let funcs = holds-equal wf v p.concl (f z w v (all_left (holds th m z w) hs gs h)) in
      let args = holds-equal wf v q.concl (g z w v (all_right (holds th m z w) hs gs h)) in
      equal-holds wf v r.concl
      (app_worth wf v i.left j.left ∙ ap₂ (digit (card_ty m z b)) funcs args ∙ sym (app_worth wf v i.right j.right))

  pub lam_valid : {hs : List Tm} {b : Ty} {s t : Tm} (x : Word) (a : Ty) → ok_ty th a ≡ true → any (free_in x a) hs ≡ false
      → SeqHas th hs (equal b s t) → SeqHas th hs (equal (fun a b) (abstract x a s) (abstract x a t))
      → Valid th m hs (equal b s t) → Valid th m hs (equal (fun a b) (abstract x a s) (abstract x a t))
  lam_valid {hs} {b} {s} {t} x a o n p r f z w v h =
      let i = equal-parts p.concl in
      let bodies = encode_ext (card_ty m z b) _ _ (card_ty m z a) same in
      equal-holds wf v r.concl (abstract_worth wf v x a o i.left ∙ bodies ∙ sym (abstract_worth wf v x a o i.right))
    where
      hyps : (k : ℕ) → all (holds th m z (update w x a k)) hs ≡ true
      hyps k = all-kept (λ g j q e. holds_same (sym (update_worth wf v x a k (in_none (free_in x a) n j) q)) e) p.hyps h

      same : (k : ℕ) → k < card_ty m z a → worth th m z (update w x a k) s ≡ worth th m z (update w x a k) t
      same k l = let u = update_valuation x a k l v in holds-equal wf u p.concl (f z (update w x a k) u (hyps k))

  pub beta_valid : {a b : Ty} {t s : Tm} → SeqHas th [] (equal b (app (lam a t) s) (open_at 0 s t))
      → Valid th m [] (equal b (app (lam a t) s) (open_at 0 s t))
  beta_valid {a} {b} {t} {s} r z w v h =
      let p = app-parts (equal-parts r.concl).left in
      let f = lam-parts p.func in
      let body : Has th (a ∷ []) t b = rw (sym (fun-cod f.is)) at f.body in
      let arg : Has th [] s a = rw (fun-dom f.is) at p.arg in
      equal-holds wf v r.concl (beta_worth wf v f.ok body arg)

  -- DEDUCTION
  pub assume_valid : (t : Tm) → Valid th m (t ∷ []) t
  assume_valid t z w v h = (both (holds th m z w t) _ h).0

  pub eqmp_valid : {hs gs : List Tm} {s t : Tm} → SeqHas th hs (equal bool s t) → SeqHas th gs s
      → Valid th m hs (equal bool s t) → Valid th m gs s → Valid th m (hs ++ gs) t
  eqmp_valid {hs} {gs} p q f g z w v h =
      let same = holds-equal wf v p.concl (f z w v (all_left (holds th m z w) hs gs h)) in
      holds_same same (g z w v (all_right (holds th m z w) hs gs h))

  pub anti_valid : {hs gs : List Tm} {s t : Tm} → SeqHas th hs s → SeqHas th gs t
      → SeqHas th (remove t hs ++ remove s gs) (equal bool s t) → Valid th m hs s → Valid th m gs t
      → Valid th m (remove t hs ++ remove s gs) (equal bool s t)
  anti_valid {hs} {gs} {s} {t} p q r f g z w v h =
      equal-holds wf v r.concl (same_bit _ _ (worth_lt wf v p.concl) (worth_lt wf v q.concl) left right)
    where
      left : worth th m z w s ≡ 1 → worth th m z w t ≡ 1
      left e = eqb-true _ _ (g z w v (all_remove _ s gs (eq-eqb _ _ e) (all_right _ (remove t hs) (remove s gs) h)))

      right : worth th m z w t ≡ 1 → worth th m z w s ≡ 1
      right e = eqb-true _ _ (f z w v (all_remove _ t hs (eq-eqb _ _ e) (all_left _ (remove t hs) (remove s gs) h)))

  pub more_valid : {hs gs : List Tm} {t : Tm} → SeqHas th hs t → SeqHas th gs t → Within hs gs → Valid th m hs t → Valid th m gs t
  more_valid {hs} {gs} p r i f z w v h =
      f z w v (all_of (holds th m z w) hs (λ t j. all_in (holds th m z w) h (in_terms t gs (all_in (λ g. in_hyps g gs) i j))))

  -- SUBSTITUTION
  pub inst_valid : {hs : List Tm} {t : Tm} (es : Subst) → all (ok_entry th) es ≡ true → SeqHas th hs t → Valid th m hs t
      → Valid th m (map (subst_tm es) hs) (subst_tm es t)
  inst_valid {hs} es ok p f z w v h =
      let u = subst_values th m (consts m th) z w es in
      let u_fits = subst_valuation v (consts_fit wf v.inhabited) es ok in
      let hyps = all-kept (λ g j q e. holds_same (subst_worth wf v es ok q) e) p.hyps (sym (all_map _ (subst_tm es) hs) ∙ h) in
      holds_same (sym (subst_worth wf v es ok p.concl)) (f z u u_fits hyps)

  pub types_valid : {hs : List Tm} {t : Tm} (es : TySubst) → OkSubst th es → SeqHas th hs t → Valid th m hs t
      → Valid th m (map (inst_tm es) hs) (inst_tm es t)
  types_valid {hs} es ok p f z w v h =
      let hyps = all-kept (λ g j q e. holds_same (inst_worth wf v es ok q) e) p.hyps (sym (all_map _ (inst_tm es) hs) ∙ h) in
      holds_same (sym (inst_worth wf v es ok p.concl)) (f (subst_cards m z es) (inst_values w es) (inst_valuation v es) hyps)

  -- AXIOMS
  pub eta_valid : {t : Tm} {a b : Ty} → SeqHas th [] (equal (fun a b) (lam a (app t (bvar 0))) t)
      → Valid th m [] (equal (fun a b) (lam a (app t (bvar 0))) t)
  eta_valid {t} {a} {b} r z w v h =
      let typed = (equal-parts r.concl).right in
      equal-holds wf v r.concl (eta_worth wf v (dom_ok th a b (type_ok wf typed)) typed)

  pub some_valid : {p x : Tm} {a : Ty} → Has th [] p (fun a bool) → Has th [] x a
      → Valid th m (app p x ∷ []) (app p (app (const w_choice (one a)) p))
  some_valid {p} {x} p_has x_has z w v h =
      eq-eqb _ _ (choice_worth wf v (type_ok wf x_has) p_has x_has (eqb-true _ _ (both (holds th m z w (app p x)) _ h).0))

  -- WHAT WAS DECLARED
  pub unfold_valid : {c : Word} {a b : Ty} {t : Tm} (as₁ : Tys) → Declared th (d_def c a t) → const_at th c as₁ ≡ some b
      → SeqHas th [] (equal b (const c as₁) (inst_tm (zip (tyvars_ty a []) as₁) t))
      → Valid th m [] (equal b (const c as₁) (inst_tm (zip (tyvars_ty a []) as₁) t))
  unfold_valid as₁ d e r z w v h = equal-holds wf v r.concl (sym (worth_is wf v (unfold_denotes as₁ wf d e)))
