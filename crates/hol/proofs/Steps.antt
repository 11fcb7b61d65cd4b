-- What a step finds can be derived, rule by rule.
use Rattle.std.proofs.Common.{◌≡◌, ℕ, zero, suc, List, ap, ◌∙◌}
use mathlib.Core.Option.{Option, some}
use Rattle.hol.specs.Base.{Word, nth}
use Rattle.hol.specs.Syntax.{Ty, Tys, Tm, app, same_ty, bool, fun, arrow, TySubst, Subst, Seq}
use Rattle.hol.specs.Theory.{Theory, ok_ty, const_at, type_of}
use Rattle.hol.specs.Kernel.{k_refl, k_trans, k_use, k_lam, k_beta, k_assume, k_eqmp, k_anti, k_inst, k_types, k_eta, k_some, k_unfold, app_of, lam_of, sides, find_def, remove, Step, s_refl, s_trans, s_use, s_lam, s_beta, s_assume, s_eqmp, s_anti, s_inst, s_types, s_eta, s_some, s_unfold, s_known, on_one, on_two, step}
use Rattle.hol.specs.Rules.{Derives, r_refl, r_trans, r_use, r_lam, r_beta, r_assume, r_eqmp, r_anti, r_inst, r_types, r_eta, r_some, r_unfold, r_known}
use Rattle.hol.specs.Says.{Wf, AllDerived, none_yet, and_this, StepSound}
use Rattle.hol.proofs.Tools.{◌>>=◌, both, not_true, some_same, none_some, bound, guarded}
use Rattle.hol.proofs.Equality.{ty_eq, tm_eq}
use Rattle.hol.proofs.Typing.{arrow_is, type_is, of_type}
use Rattle.hol.proofs.Declarations.{theorem_derives}
use Rattle.hol.proofs.Assumptions.{derives_union, derives_dedup}
use Rattle.hol.proofs.Shapes.{app_is, lam_is, sides_are, Known, known_axiom, known_thm, known_is, find_def_is}

-- a sequent can be derived
abbrev pub Derived : Theory → Seq → Type 0
Derived th p = Derives th p.hyps p.concl

-- the sequent that was found
found : {th : Theory} {p : Seq} (q : Seq) → some q ≡ some p → Derived th q → Derived th p
found {th} q e d = rw (some_same e) at d

-- the sequents found before
pub derived_at : {th : Theory} {ps : List Seq} → AllDerived th ps → (i : ℕ) {p : Seq} → nth ps i ≡ some p → Derived th p
derived_at none_yet i e = none_some e
derived_at (and_this {p = q} d ds) zero e = found q e d
derived_at (and_this d ds) (suc i) e = derived_at ds i e

module _ (th : Theory) (w : Wf th) where
  refl_sound : (t : Tm) {p : Seq} → k_refl th t ≡ some p → Derived th p
  refl_sound t e = do
    (a, t_is, s) ← bound (type_of th t) _ e
    found _ s (r_refl t_is)

  trans_sound : (p q : Seq) → Derived th p → Derived th q → (r : Seq) → k_trans p q ≡ some r → Derived th r
  trans_sound p q dp dq _ e = do
    (s, p_is, e₁) ← bound (sides p.concl) _ e
    (r, q_is, e₂) ← bound (sides q.concl) _ e₁
    (same, f) ← guarded _ _ e₂
    (a_is, t_is) ← both (same_ty s.ty r.ty) _ same
    dp' ← rw (sides_are p.concl p_is) at dp
    dq' ← rw (sides_are q.concl q_is, ← ty_eq s.ty r.ty a_is, ← tm_eq s.right r.left t_is) at dq
    found _ f (derives_union p.hyps q.hyps w (r_trans dp' dq'))

  use_sound : (p q : Seq) → Derived th p → Derived th q → (r : Seq) → k_use p q ≡ some r → Derived th r
  use_sound p q dp dq _ e = do
    (s, p_is, e₁) ← bound (sides p.concl) _ e
    (r, q_is, e₂) ← bound (sides q.concl) _ e₁
    (f, f_is, e₃) ← bound (arrow s.ty) _ e₂
    (same, g) ← guarded _ _ e₃
    dp' ← rw (sides_are p.concl p_is, arrow_is s.ty f_is) at dp
    dq' ← rw (sides_are q.concl q_is, ← ty_eq f.dom r.ty same) at dq
    found _ g (derives_union p.hyps q.hyps w (r_use dp' dq'))

  lam-sound : (x : Word) (a : Ty) (p : Seq) → Derived th p → (r : Seq) → k_lam th x a p ≡ some r → Derived th r
  lam-sound x a p dp _ e = do
    (s, p_is, e₁) ← bound (sides p.concl) _ e
    (test, f) ← guarded _ _ e₁
    (a_ok, not-Free) ← both (ok_ty th a) _ test
    dp' ← rw (sides_are p.concl p_is) at dp
    found _ f (r_lam x a_ok (not_true _ not-Free) dp')

  beta_sound : (t : Tm) {r : Seq} → k_beta th t ≡ some r → Derived th r
  beta_sound t e = do
    (b, t_has, e₁) ← bound (type_of th t) _ e
    (u, t_is, e₂) ← bound (app_of t) _ e₁
    (f, f_is, s) ← bound (lam_of u.func) _ e₂
    is ← app_is t t_is ∙ ap (λ g. app g u.arg) (lam_is u.func f_is)
    found _ s (rw is (r_beta (rw is at t_has)))

  assume_sound : (t : Tm) {r : Seq} → k_assume th t ≡ some r → Derived th r
  assume_sound t e = do
    (t_has, s) ← guarded _ _ e
    found _ s (r_assume (type_is (of_type th t bool t_has)))

  eqmp_sound : (p q : Seq) → Derived th p → Derived th q → (r : Seq) → k_eqmp p q ≡ some r → Derived th r
  eqmp_sound p q dp dq _ e = do
    (s, p_is, e₁) ← bound (sides p.concl) _ e
    (same, f) ← guarded _ _ e₁
    (a_is, t_is) ← both (same_ty s.ty bool) _ same
    dp' ← rw (sides_are p.concl p_is, ty_eq s.ty bool a_is, tm_eq s.left q.concl t_is) at dp
    found _ f (derives_union p.hyps q.hyps w (r_eqmp dp' dq))

  anti_sound : (p q : Seq) → Derived th p → Derived th q → (r : Seq) → k_anti p q ≡ some r → Derived th r
  anti_sound p q dp dq _ e =
      found _ e (derives_union (remove q.concl p.hyps) (remove p.concl q.hyps) w (r_anti dp dq))

  inst_sound : (es : Subst) (p : Seq) → Derived th p → (r : Seq) → k_inst th es p ≡ some r → Derived th r
  inst_sound es p dp _ e = do
    (oks, s) ← guarded _ _ e
    found _ s (derives_dedup w (r_inst es oks dp))

  types-sound : (es : TySubst) (p : Seq) → Derived th p → (r : Seq) → k_types th es p ≡ some r → Derived th r
  types-sound es p dp _ e = do
    (oks, s) ← guarded _ _ e
    found _ s (derives_dedup w (r_types es oks dp))

  eta_sound : (t : Tm) {r : Seq} → k_eta th t ≡ some r → Derived th r
  eta_sound t e = do
    (a, t_has, e₁) ← bound (type_of th t) _ e
    (f, a_is, s) ← bound (arrow a) _ e₁
    is ← arrow_is a a_is
    found _ s (rw is (r_eta (rw is at t_has)))

  some_sound : (p x : Tm) {r : Seq} → k_some th p x ≡ some r → Derived th r
  some_sound p x e = do
    (a, x_has, e₁) ← bound (type_of th x) _ e
    (p_has, s) ← guarded _ _ e₁
    found _ s (r_some x_has (type_is (of_type th p (fun a bool) p_has)))

  unfold_sound : (c : Word) (as₁ : Tys) {r : Seq} → k_unfold th c as₁ ≡ some r → Derived th r
  unfold_sound c as₁ e = do
    (d, d_is, e₁) ← bound (find_def th c) _ e
    (b, b_is, s) ← bound (const_at th c as₁) _ e₁
    found _ s (r_unfold as₁ (find_def_is th c d_is) b_is)

  known-sound : {r : Seq} → Known th r → Derived th r
  known-sound (known_axiom d) = r_known d
  known-sound (known_thm d) = theorem_derives w d

  -- a rule that uses one or two of the sequents found before
  one-sound : (f : Seq → Option Seq) → ((p : Seq) → Derived th p → (r : Seq) → f p ≡ some r → Derived th r)
      → {ps : List Seq} → AllDerived th ps → (i : ℕ) {r : Seq} → on_one ps i f ≡ some r → Derived th r
  one-sound f sound {ps} ds i {r} e = do
    (p, p_is, e₁) ← bound (nth ps i) f e
    sound p (derived_at ds i p_is) r e₁

  two-sound : (f : Seq → Seq → Option Seq)
      → ((p q : Seq) → Derived th p → Derived th q → (r : Seq) → f p q ≡ some r → Derived th r)
      → {ps : List Seq} → AllDerived th ps → (i j : ℕ) {r : Seq} → on_two ps i j f ≡ some r → Derived th r
  two-sound f sound {ps} ds i j {r} e = do
    (p, p_is, e₁) ← bound (nth ps i) _ e
    (q, q_is, e₂) ← bound (nth ps j) _ e₁
    sound p q (derived_at ds i p_is) (derived_at ds j q_is) r e₂

  step-derived : {ps : List Seq} (s : Step) {r : Seq} → AllDerived th ps → step th ps s ≡ some r → Derived th r
  step-derived (s_refl t) ds e = refl_sound t e
  step-derived (s_trans i j) ds e = two-sound k_trans trans_sound ds i j e
  step-derived (s_use i j) ds e = two-sound k_use use_sound ds i j e
  step-derived (s_lam x a i) ds e = one-sound (k_lam th x a) (lam-sound x a) ds i e
  step-derived (s_beta t) ds e = beta_sound t e
  step-derived (s_assume t) ds e = assume_sound t e
  step-derived (s_eqmp i j) ds e = two-sound k_eqmp eqmp_sound ds i j e
  step-derived (s_anti i j) ds e = two-sound k_anti anti_sound ds i j e
  step-derived (s_inst i es) ds e = one-sound (k_inst th es) (inst_sound es) ds i e
  step-derived (s_types i es) ds e = one-sound (k_types th es) (types-sound es) ds i e
  step-derived (s_eta t) ds e = eta_sound t e
  step-derived (s_some p x) ds e = some_sound p x e
  step-derived (s_unfold c as₁) ds e = unfold_sound c as₁ e
  step-derived (s_known v) ds e = known-sound (known_is th v e)

pub steps_sound : StepSound
steps_sound th ps s p w ds e = step-derived th w s ds e
