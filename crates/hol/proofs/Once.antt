-- A step's sequent has each assumption once, where the sequents that it can use have.
use Rattle.std.proofs.Common.{◌≡◌, ℕ, true, List, map, refl}
use mathlib.Core.Option.{Option}
use Rattle.hol.specs.Base.{Word, nth, all}
use Rattle.hol.specs.Syntax.{Ty, arrow, TySubst, inst_tm, Subst, subst_tm, Seq}
use Rattle.hol.specs.Theory.{Decl, d_thm, Theory, Declared, const_at, type_of, known}
use Rattle.hol.specs.Kernel.{k_trans, k_use, k_lam, k_eqmp, k_anti, k_inst, k_types, app_of, lam_of, sides, find_def, remove, Step, s_refl, s_trans, s_use, s_lam, s_beta, s_assume, s_eqmp, s_anti, s_inst, s_types, s_eta, s_some, s_unfold, s_known, on_one, on_two, step}
use Rattle.hol.specs.Says.{once, DeclOnce, HypsOnce}
use Rattle.hol.proofs.Tools.{all_at, Each, each_some, each_is, each_of, each_bind, each_guard}
use Rattle.hol.proofs.Assumptions.{once-union, once-remove, once-dedup}
use Rattle.hol.proofs.Shapes.{Known, known_axiom, known_thm, known_is}

abbrev Once : Seq → Type 0
Once p = once p.hyps ≡ true

known-once : {th : Theory} {p : Seq} → ((d : Decl) → Declared th d → DeclOnce d) → Known th p → Once p
known-once h (known_axiom d) = refl
known-once h (known_thm {v = v} {s = s} d) = h (d_thm v s) d

-- RULES that use sequents
trans_once : (p q : Seq) → Once p → Once q → Each Once (k_trans p q)
trans_once p q o₁ o₂ =
    each_bind (sides p.concl) _ (λ s e. each_bind (sides q.concl) _ (λ r f.
    each_guard _ (each_some (once-union p.hyps q.hyps o₁ o₂))))

use_once : (p q : Seq) → Once p → Once q → Each Once (k_use p q)
use_once p q o₁ o₂ =
    each_bind (sides p.concl) _ (λ s e. each_bind (sides q.concl) _ (λ r f. each_bind (arrow s.ty) _ (λ g i.
    each_guard _ (each_some (once-union p.hyps q.hyps o₁ o₂)))))

lam-once : (th : Theory) (x : Word) (a : Ty) (p : Seq) → Once p → Each Once (k_lam th x a p)
lam-once th x a p o = each_bind (sides p.concl) _ (λ s e. each_guard _ (each_some o))

eqmp_once : (p q : Seq) → Once p → Once q → Each Once (k_eqmp p q)
eqmp_once p q o₁ o₂ = each_bind (sides p.concl) _ (λ s e. each_guard _ (each_some (once-union p.hyps q.hyps o₁ o₂)))

anti_once : (p q : Seq) → Once p → Once q → Each Once (k_anti p q)
anti_once p q o₁ o₂ =
    let hs = remove q.concl p.hyps in
    let gs = remove p.concl q.hyps in
    each_some (once-union hs gs (once-remove q.concl p.hyps o₁) (once-remove p.concl q.hyps o₂))

inst_once : (th : Theory) (es : Subst) (p : Seq) → Each Once (k_inst th es p)
inst_once th es p = each_guard _ (each_some (once-dedup (map (subst_tm es) p.hyps)))

types-once : (th : Theory) (es : TySubst) (p : Seq) → Each Once (k_types th es p)
types-once th es p = each_guard _ (each_some (once-dedup (map (inst_tm es) p.hyps)))

-- STEPS
module _ (ps : List Seq) (os : all (λ q. once q.hyps) ps ≡ true) where
  one-once : (f : Seq → Option Seq) → ((p : Seq) → Once p → Each Once (f p)) → (i : ℕ) → Each Once (on_one ps i f)
  one-once f h i = each_bind (nth ps i) f (λ p e. h p (all_at _ ps i os e))

  two-once : (f : Seq → Seq → Option Seq) → ((p q : Seq) → Once p → Once q → Each Once (f p q)) → (i j : ℕ)
      → Each Once (on_two ps i j f)
  two-once f h i j =
      each_bind (nth ps i) _ (λ p e. each_bind (nth ps j) _ (λ q g. h p q (all_at _ ps i os e) (all_at _ ps j os g)))

  step-once : (th : Theory) (s : Step) → ((d : Decl) → Declared th d → DeclOnce d) → Each Once (step th ps s)
  step-once th (s_refl t) h = each_bind (type_of th t) _ (λ a e. each_some refl)
  step-once th (s_trans i j) h = two-once k_trans trans_once i j
  step-once th (s_use i j) h = two-once k_use use_once i j
  step-once th (s_lam x a i) h = one-once (k_lam th x a) (lam-once th x a) i
  step-once th (s_beta t) h =
      each_bind (type_of th t) _ (λ b e. each_bind (app_of t) _ (λ u f. each_bind (lam_of u.func) _ (λ g i. each_some refl)))
  step-once th (s_assume t) h = each_guard _ (each_some refl)
  step-once th (s_eqmp i j) h = two-once k_eqmp eqmp_once i j
  step-once th (s_anti i j) h = two-once k_anti anti_once i j
  step-once th (s_inst i es) h = one-once (k_inst th es) (λ p o. inst_once th es p) i
  step-once th (s_types i es) h = one-once (k_types th es) (λ p o. types-once th es p) i
  step-once th (s_eta t) h = each_bind (type_of th t) _ (λ a e. each_bind (arrow a) _ (λ f g. each_some refl))
  step-once th (s_some p x) h = each_bind (type_of th x) _ (λ a e. each_guard _ (each_some refl))
  step-once th (s_unfold c as₁) h = each_bind (find_def th c) _ (λ d e. each_bind (const_at th c as₁) _ (λ b f. each_some refl))
  step-once th (s_known v) h = each_of (known th v) (λ p e. known-once h (known_is th v e))

pub steps_once : HypsOnce
steps_once th ps s p h os e = each_is (rw e at (step-once ps os th s h))
