-- One lemma for each move of the machine that builds terms anew.
use Rattle.std.proofs.Common.{◌≡◌, ℕ, ◌+◌, ◌-◌, ◌*◌, ◌^◌, ◌<◌, true, ◌⊎◌, List, ◌∷◌, length, Some, sym, refl, ap, ◌∙◌, subst, inl, inr, true≢false, arith}
use mathlib.Core.Option.{some}
use Rattle.hol.specs.Syntax.{Ty, Tm, fvar, bvar, const, app, lam}
use Rattle.store.specs.Measures.{nodes_ty, nodes_tm}
use Rattle.store.specs.State.{Contents, State}
use Rattle.store.specs.Builds.{Made, Full, IsApp, IsLam}
use Rattle.store.specs.Views.{TermSays, ViewFree, ViewConstant, ViewApply, ViewLambda}
use Rattle.store.specs.declared.view.TermView.{TermView}
use Rattle.store.specs.declared.view.TermView.TheVariants.{Free, Bound, Constant}
use Rattle.store.proofs.Growth.{grows_same}
use Rattle.waits.specs.Codes.{code}
use Rattle.rebuild.specs.Rebuilt.{Change, rebuilt, is_leaf}
use Rattle.rebuild.specs.Machine.{Path, function_of, argument_of, body_of, deep, plug, Holds, holds_root, holds_function, holds_argument, holds_body, Point, down, up, end, outcome, spent, At, at_down, at_up, at_end, Moved, Stuck}
use Rattle.rebuild.specs.declared.turn.Turn.TheVariants.{Down, Up, End}
use Rattle.waits.specs.declared.Wait.{Wait}
use Rattle.waits.specs.declared.Wait.TheVariants.{Function, Argument, Body}
use Rattle.rebuild.proofs.Stack.{holds_kept, held-length, held-deep, done-fits, Top, top, top_function, top_argument, top-body}

leaf-rebuilt : (F : Change) (n : ℕ) (u : Tm) → is_leaf u ≡ true → rebuilt F n u ≡ F.leaf n u
leaf-rebuilt F n (fvar x a) h = refl
leaf-rebuilt F n (bvar k) h = refl
leaf-rebuilt F n (const c as₁) h = refl
leaf-rebuilt F n (app f x) h = absurd (true≢false (sym h))
leaf-rebuilt F n (lam a t) h = absurd (true≢false (sym h))

-- what is seen of a leaf
pub leaf_seen : (c : Contents) (u : Tm) (v : TermView)
    → ((x : ℕ) × (a : ℕ) × (v ≡ Free x a)) ⊎ (((k : ℕ) × (v ≡ Bound k)) ⊎ ((x : ℕ) × (as₁ : ℕ) × (v ≡ Constant x as₁)))
    → TermSays c u (Some v) → is_leaf u ≡ true
leaf_seen c u v (inl (x, a, e)) h = let w : ViewFree c x a u = rw e at h in ap is_leaf w.is
leaf_seen c u v (inr (inl (k, e))) h = let w : u ≡ bvar k = rw e at h in ap is_leaf w
leaf_seen c u v (inr (inr (x, as₁, e))) h = let w : ViewConstant c x as₁ u = rw e at h in ap is_leaf w.is

-- where the machine goes down
pub going_down : {d : ℕ} {c : Contents} {ws : List ℕ} {n k : ℕ} {x : Point} (P : Point → Type 0) → At d c ws (Down n k) x
    → ((p : Path) (u : Tm) → c.term n ≡ some u → Holds c ws p → k ≡ deep d p → P (down p u)) → P x
going_down P (at_down {u = u} {p = p} e h q) f = f p u e h q

pub down-stands : {d : ℕ} {c : Contents} {ws : List ℕ} {n k : ℕ} {x : Point} → At d c ws (Down n k) x → (u : Tm) × (c.term n ≡ some u)
down-stands (at_down {u = u} e h q) = (u, e)

pub going_under : {c : Contents} {a body : ℕ} {u : Tm} (P : Point → Type 0) (p : Path) (v : ViewLambda c a body u) → P (down p (lam v.ty v.body))
    → P (down p u)
going_under P p v h = subst (λ (w : Tm). P (down p w)) (sym v.is) h

module _ (F : Change) (d : ℕ) (s t : State) (ws : List ℕ) (p : Path) (h : Holds s.contents ws p) (k : ℕ) (q : k ≡ deep d p) where
  -- A LEAF is done
  pub leaf-done : (u : Tm) → is_leaf u ≡ true → (m : ℕ) → Made (nodes_tm (F.leaf k u)) s t (λ c n. c.term n ≡ some (F.leaf k u)) m
      → Moved F d s t ws (down p u) (Up m k)
  leaf-done u l m b = record {
    to = up p (F.leaf k u);
    at = at_up b.stands (holds_kept b.grows.keeps h) q;
    outcome = rw (q, leaf-rebuilt F (deep d p) u l) refl;
    cost = nodes_tm (F.leaf k u);
    grows = b.grows;
    spent = omega arith;
    weight = omega arith;
    moves = omega arith;
  }

  -- no room for a leaf
  pub leaf_stuck : (u : Tm) → is_leaf u ≡ true → (capacity room : ℕ) → room ≡ capacity - length ws
      → (room < 4 * nodes_tm u) ⊎ (s.left < nodes_tm (F.leaf k u)) → Stuck F d capacity s (down p u)
  leaf_stuck u l capacity room e (inl a) = let i = held-length h in inl (omega arith)
  leaf_stuck u l capacity room e (inr a) =
      let i = done-fits F d p (rebuilt F (deep d p) u) in
      let j = ap nodes_tm (leaf-rebuilt F (deep d p) u l) in
      let o = ap (λ n. nodes_tm (F.leaf n u)) q in
      inr (omega arith)

  -- A λ: what becomes of its type waits for the body
  pub into_lambda : (b : Ty) (u : Tm) (body j : ℕ) → s.contents.term body ≡ some u → j ≡ k + 1 → (us : List ℕ) (m : ℕ)
      → us ≡ code Body ∷ m ∷ ws → Made (nodes_ty (F.typ b)) s t (λ c n. c.typ n ≡ some (F.typ b)) m
      → Moved F d s t us (down p (lam b u)) (Down body j)
  into_lambda b u body j e i us m r a = record {
    to = down (body_of (F.typ b) p) u;
    at = at_down (a.grows.keeps.term body u e) (holds_body r a.stands (holds_kept a.grows.keeps h)) (i ∙ ap (λ n. n + 1) q);
    outcome = refl;
    cost = nodes_ty (F.typ b);
    grows = a.grows;
    spent = omega arith;
    weight = omega arith;
    moves = omega arith;
  }

  -- no room for the type of a λ
  pub lambda_stuck : (b : Ty) (u : Tm) (capacity room : ℕ) → room ≡ capacity - length ws
      → (room < 4 * nodes_ty b) ⊎ (s.left < nodes_ty (F.typ b)) → Stuck F d capacity s (down p (lam b u))
  lambda_stuck b u capacity room e (inl a) = let i = held-length h in inl (omega arith)
  lambda_stuck b u capacity room e (inr a) = let i = done-fits F d p (rebuilt F (deep d p) (lam b u)) in inr (omega arith)

  -- no place for it
  pub lambda_no_place : (b : Ty) (u : Tm) (capacity : ℕ) → capacity < length ws + 2 → Stuck F d capacity s (down p (lam b u))
  lambda_no_place b u capacity l = let i = held-length h in inl (omega arith)

  -- no term is so deep that its depth is no word
  pub too_deep : (b : Ty) (u : Tm) (capacity : ℕ) → d < 2 ^ 63 → length ws < 2 ^ 64 → (k + 1 < 2 ^ 64 → ⊥)
      → Stuck F d capacity s (down p (lam b u))
  too_deep b u capacity l m n = let i = held-deep d h in absurd (n (omega arith))

  -- AN APPLICATION: its argument waits for its function
  pub into_apply : (u : Tm) (g x : ℕ) → ViewApply s.contents g x u → (vs : List ℕ) → vs ≡ code Function ∷ x ∷ ws
      → Moved F d s s vs (down p u) (Down g k)
  into_apply u g x v vs e =
      let i = ap nodes_tm v.is in
      record {
        to = down (function_of v.arg p) v.func;
        at = at_down v.func_is (holds_function e v.arg_is h) q;
        outcome = ap (λ w. plug F d p (rebuilt F (deep d p) w)) (sym v.is);
        cost = 0;
        grows = grows_same;
        spent = omega arith;
        weight = omega arith;
        moves = omega arith;
      }

  -- no place for the argument
  pub apply_stuck : (u : Tm) (g x : ℕ) → ViewApply s.contents g x u → (capacity : ℕ) → capacity < length ws + 2
      → Stuck F d capacity s (down p u)
  apply_stuck u g x v capacity l = let i = ap nodes_tm v.is in let j = held-length h in inl (omega arith)

-- UP
module _ (F : Change) (d : ℕ) (s t : State) (ws : List ℕ) (n i : ℕ) where
  -- nothing waits: the end
  pub ended : (vs : List ℕ) {x : Point} → At d s.contents ws (Up n i) x → length ws < 2 → Moved F d s s vs x (End n)
  ended vs (at_up {u = u} e h q) l = go u e h l
    where
      go : (u : Tm) {us : List ℕ} {p : Path} → s.contents.term n ≡ some u → Holds s.contents us p → length us < 2
          → Moved F d s s vs (up p u) (End n)
      go u e holds_root l = record {
        to = end u;
        at = at_end e;
        outcome = refl;
        cost = 0;
        grows = grows_same;
        spent = omega arith;
        weight = omega arith;
        moves = omega arith;
      }
      go u e (holds_function q f h) l = absurd (omega (arith, ap length q))
      go u e (holds_argument q f h) l = absurd (omega (arith, ap length q))
      go u e (holds_body q f h) l = absurd (omega (arith, ap length q))

  module _ (k m : ℕ) (vs : List ℕ) (r : ws ≡ k ∷ m ∷ vs) where
    -- the function is done: it waits for the argument
    pub function_done : (us : List ℕ) {x : Point} → At d s.contents ws (Up n i) x → ((w : Wait) → k ≡ code w → Function ≡ w)
        → us ≡ code Argument ∷ n ∷ vs → Moved F d s s us x (Down m i)
    function_done us (at_up {u = u} e h q) o a = go u e (top h r o) q
      where
        go : (u : Tm) {p : Path} → s.contents.term n ≡ some u → Top s.contents m vs Function p → i ≡ deep d p
            → Moved F d s s us (up p u) (Down m i)
        go u e (top_function {x = x} {p = p} f h) q = record {
          to = down (argument_of u p) x;
          at = at_down f (holds_argument a e h) q;
          outcome = refl;
          cost = 0;
          grows = grows_same;
          spent = omega arith;
          weight = omega arith;
          moves = omega arith;
        }

    -- no place for the function: it takes the place of the argument, so this cannot be
    pub function_stuck : (capacity : ℕ) {x : Point} → At d s.contents ws (Up n i) x → capacity < length vs + 2 → Stuck F d capacity s x
    function_stuck capacity (at_up e h q) l = let a = held-length h in let b = ap length r in inl (omega arith)

    -- the argument is done
    pub argument_done : (j : ℕ) {x : Point} → At d s.contents ws (Up n i) x → ((w : Wait) → k ≡ code w → Argument ≡ w)
        → Made 1 s t (IsApp m n) j → Moved F d s t vs x (Up j i)
    argument_done j (at_up {u = u} e h q) o b = go u e (top h r o) q
      where
        go : (u : Tm) {p : Path} → s.contents.term n ≡ some u → Top s.contents m vs Argument p → i ≡ deep d p
            → Moved F d s t vs (up p u) (Up j i)
        go u e (top_argument {f = f} {p = p} a h) q =
            let g = b.grows.keeps in
            record {
              to = up p (app f u);
              at = at_up (b.stands f u (g.term m f a) (g.term n u e)) (holds_kept g h) q;
              outcome = refl;
              cost = 1;
              grows = b.grows;
              spent = omega arith;
              weight = omega arith;
              moves = omega arith;
            }

    -- no node for the application
    pub argument_full : (capacity : ℕ) {x : Point} → At d s.contents ws (Up n i) x → ((w : Wait) → k ≡ code w → Argument ≡ w)
        → Full 1 s t → Stuck F d capacity s x
    argument_full capacity (at_up {u = u} e h q) o b = inr (go u (top h r o))
      where
        go : (u : Tm) {p : Path} → Top s.contents m vs Argument p → s.left + spent (up p u) < nodes_tm (outcome F d (up p u))
        go u (top_argument {f = f} {p = p} a h) = let c = done-fits F d p (app f u) in let l = b.short in omega arith

    -- the body is done
    pub body-done : (j l : ℕ) {x : Point} → At d s.contents ws (Up n i) x → ((w : Wait) → k ≡ code w → Body ≡ w) → l ≡ i - 1
        → Made 1 s t (IsLam m n) j → Moved F d s t vs x (Up j l)
    body-done j l (at_up {u = u} e h q) o z b = go u e (top h r o) q
      where
        go : (u : Tm) {p : Path} → s.contents.term n ≡ some u → Top s.contents m vs Body p → i ≡ deep d p
            → Moved F d s t vs (up p u) (Up j l)
        go u e (top-body {a = a} {p = p} f h) q =
            let g = b.grows.keeps in
            record {
              to = up p (lam a u);
              at = at_up (b.stands a u (g.typ m a f) (g.term n u e)) (holds_kept g h) (omega arith);
              outcome = refl;
              cost = 1;
              grows = b.grows;
              spent = omega arith;
              weight = omega arith;
              moves = omega arith;
            }

    -- no node for the λ
    pub body_full : (capacity : ℕ) {x : Point} → At d s.contents ws (Up n i) x → ((w : Wait) → k ≡ code w → Body ≡ w)
        → Full 1 s t → Stuck F d capacity s x
    body_full capacity (at_up {u = u} e h q) o b = inr (go u (top h r o))
      where
        go : (u : Tm) {p : Path} → Top s.contents m vs Body p → s.left + spent (up p u) < nodes_tm (outcome F d (up p u))
        go u (top-body {a = a} {p = p} f h) = let c = done-fits F d p (lam a u) in let l = b.short in omega arith
