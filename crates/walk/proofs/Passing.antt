-- Going through a term by the terms right below it, where the term itself does nothing.
use Rattle.std.proofs.Common.{◌≡◌, ℕ, ◌+◌, ◌<◌, ◌≤◌, List, [], ◌∷◌, length, Some, refl, ap, ◌∙◌, arith}
use mathlib.Core.Option.{some}
use Rattle.hol.specs.Base.{Word}
use Rattle.hol.specs.Syntax.{Ty, Tys, Tm, fvar, bvar, const, app, lam}
use Rattle.lent.specs.Piles.{onto}
use Rattle.store.specs.Measures.{nodes_tm}
use Rattle.store.specs.State.{Contents}
use Rattle.store.specs.Views.{TermSays}
use Rattle.store.specs.declared.view.TermView.{TermView}
use Rattle.store.specs.declared.view.TermView.TheVariants.{Free, Bound, Constant, Apply, Lambda}
use Rattle.walk.specs.Below.{below}
use Rattle.walk.specs.Standing.{more}
use Rattle.walk.proofs.Pending.{Turn, Pending, load, newest, turned, falls, words_fit}

-- only free variables count
pub record Passes {S : Type 0} (act : Tm → S → S) : Type 0 where
  pub bound : (k : ℕ) (s : S) → act (bvar k) s ≡ s
  pub constant : (c : Word) (bs : Tys) (s : S) → act (const c bs) s ≡ s
  pub apply : (f x : Tm) (s : S) → act (app f x) s ≡ act x (act f s)
  pub lambda : (a : Ty) (t : Tm) (s : S) → act (lam a t) s ≡ act t s

pub nodes_positive : (t : Tm) → 0 < nodes_tm t
nodes_positive (fvar x a) = omega arith
nodes_positive (bvar k) = omega arith
nodes_positive (const c bs) = omega arith
nodes_positive (app f x) = omega arith
nodes_positive (lam a t) = omega arith

module _ {S : Type 0} {act : Tm → S → S} (law : Passes act) (c : Contents) where
  -- a term that is no free variable
  passed : {t : Tm} (v : TermView) → TermSays c t (Some v) → ((x a : ℕ) → v ≡ Free x a → ⊥) → (s : S)
      → Turn c.term act nodes_tm t (below v) s s 0 0
  passed (Free x a) h no_free s = absurd (no_free x a refl)
  passed (Bound k) h no_free s = record {
    items = [];
    stand = λ i. i;
    does = ap (λ u. act u s) h ∙ law.bound k s;
    rises = omega arith;
    weighs = rw h (omega arith);
  }
  passed (Constant x as₁) h no_free s = record {
    items = [];
    stand = λ i. i;
    does = ap (λ u. act u s) h.is ∙ law.constant _ _ s;
    rises = omega arith;
    weighs = rw h.is (omega arith);
  }
  passed (Apply f x) h no_free s = record {
    items = h.func ∷ h.arg ∷ [];
    stand = λ i. more h.func_is (more h.arg_is i);
    does = ap (λ u. act u s) h.is ∙ law.apply _ _ s;
    rises = omega arith;
    weighs = rw h.is (omega arith);
  }
  passed (Lambda a b) h no_free s = record {
    items = h.body ∷ [];
    stand = λ i. more h.body_is i;
    does = ap (λ u. act u s) h.is ∙ law.lambda _ _ s;
    rises = omega arith;
    weighs = rw h.is (omega arith);
  }

  -- the newest word n stands for a term with the view v, which is no free variable
  module _ {goal : S} {bound : ℕ} {ws ns : List ℕ} {n : ℕ} {s : S} (p : Pending c.term act nodes_tm goal bound ws s 0)
      (q : ws ≡ n ∷ ns)
      (v : TermView) (says : (t : Tm) → c.term n ≡ some t → TermSays c t (Some v)) (no_free : (x a : ℕ) → v ≡ Free x a → ⊥) where
    pub pass_turned : {vs : List ℕ} → vs ≡ onto (below v) ns → Pending c.term act nodes_tm goal bound vs s 0
    pass_turned b = let (t, e) = newest p q in turned p q t e (passed v (says t e) no_free s) b

    pub pass_falls : {vs : List ℕ} → vs ≡ onto (below v) ns → load c.term nodes_tm vs < load c.term nodes_tm ws
    pass_falls b = let (t, e) = newest p q in falls p q t e (passed v (says t e) no_free s) b

    pub pass_fits : length ns + length (below v) ≤ bound
    pass_fits = let (t, e) = newest p q in let l = words_fit p q t e (passed v (says t e) no_free s) nodes_positive in omega arith
