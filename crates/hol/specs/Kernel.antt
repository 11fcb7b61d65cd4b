-- The rules as functions from sequents to a sequent; none where a rule does not fit. Texts are judged by these.
use Rattle.std.specs.Prelude.{ℕ, Bool, cond, not, ◌&&◌, List, [], ◌∷◌, map}
use Rattle.std.proofs.Math.Option.{Option, some, none}
use Rattle.hol.specs.Base.{bind, guard, nth, all, any, Word, same_word}
use Rattle.hol.specs.Syntax.{Ty, Tys, tnil, tcons, Tm, fvar, bvar, const, app, lam, same_ty, same_tm, w_eq, w_choice, bool, fun, one, arrow, equal, TySubst, inst_tm, tyvars_ty, zip, open_at, abstract, free_in, Entry, Subst, subst_tm, Seq}
use Rattle.hol.specs.Theory.{d_type, d_const, d_def, d_axiom, d_thm, Theory, ok_ty, const_at, type_of, has_type, known}

-- ASSUMPTION LISTS, in which each assumption stands once
abbrev pub in_hyps : Tm → List Tm → Bool
in_hyps t hs = any (same_tm t) hs

-- the first's that are not in the second, then the second
abbrev pub union : List Tm → List Tm → List Tm
union [] gs = gs
union (h ∷ hs) gs = cond (in_hyps h gs) (union hs gs) (h ∷ union hs gs)

abbrev pub remove : Tm → List Tm → List Tm
remove t [] = []
remove t (h ∷ hs) = cond (same_tm t h) (remove t hs) (h ∷ remove t hs)

-- each once, where the last of those that are the same stood
abbrev pub dedup : List Tm → List Tm
dedup [] = []
dedup (h ∷ hs) = cond (in_hyps h hs) (dedup hs) (h ∷ dedup hs)

abbrev pub seq : List Tm → Tm → Seq
seq hs c = record { hyps = hs; concl = c }

-- SHAPES of terms
pub record App : Type 0 where
  pub func : Tm
  pub arg : Tm

abbrev pub app_of : Tm → Option App
app_of (fvar x a) = none
app_of (bvar n) = none
app_of (const c as₁) = none
app_of (app f x) = some (record { func = f; arg = x })
app_of (lam a t) = none

pub record Lam : Type 0 where
  pub ty : Ty
  pub body : Tm

abbrev pub lam_of : Tm → Option Lam
lam_of (fvar x a) = none
lam_of (bvar n) = none
lam_of (const c as₁) = none
lam_of (app f x) = none
lam_of (lam a t) = some (record { ty = a; body = t })

-- the type at which a term is the constant =
abbrev pub eq_of : Tm → Option Ty
eq_of (fvar x a) = none
eq_of (bvar n) = none
eq_of (const c tnil) = none
eq_of (const c (tcons a tnil)) = guard (same_word c w_eq) (some a)
eq_of (const c (tcons a (tcons b bs))) = none
eq_of (app f x) = none
eq_of (lam a t) = none

-- an equation, and the type of its sides
pub record Sides : Type 0 where
  pub ty : Ty
  pub left : Tm
  pub right : Tm

abbrev pub sides : Tm → Option Sides
sides t = bind (app_of t) (λ u. bind (app_of u.func) (λ v. bind (eq_of v.func) (λ a. some (record { ty = a; left = v.arg; right = u.arg }))))

-- EQUALITY

--   ----------- refl t        t has a type
--     ⊢ t = t
abbrev pub k_refl : Theory → Tm → Option Seq
k_refl th t = bind (type_of th t) (λ a. some (seq [] (equal a t t)))

--   Γ ⊢ s = t     Δ ⊢ t = u
--   ------------------------- trans
--         Γ ∪ Δ ⊢ s = u
abbrev pub k_trans : Seq → Seq → Option Seq
k_trans p q = bind (sides p.concl) (λ s. bind (sides q.concl) (λ r. guard (same_ty s.ty r.ty && same_tm s.right r.left) (some (seq (union p.hyps q.hyps) (equal s.ty s.left r.right)))))

--   Γ ⊢ f = g     Δ ⊢ x = y
--   ------------------------- use        f has type A -> B, and x type A
--       Γ ∪ Δ ⊢ f x = g y
abbrev pub k_use : Seq → Seq → Option Seq
k_use p q = bind (sides p.concl) (λ s. bind (sides q.concl) (λ r. bind (arrow s.ty) (λ f. guard (same_ty f.dom r.ty) (some (seq (union p.hyps q.hyps) (equal f.cod (app s.left r.left) (app s.right r.right)))))))

--          Γ ⊢ s = t
--   ------------------------- lam x A        x of type A is free in no assumption
--   Γ ⊢ (λ x. s) = (λ x. t)
abbrev pub k_lam : Theory → Word → Ty → Seq → Option Seq
k_lam th x a p = bind (sides p.concl) (λ s. guard (ok_ty th a && not (any (free_in x a) p.hyps)) (some (seq p.hyps (equal (fun a s.ty) (abstract x a s.left) (abstract x a s.right)))))

--   --------------------------- beta ((λ x. b) a)        it has a type
--   ⊢ (λ x. b) a = b[a for x]
abbrev pub k_beta : Theory → Tm → Option Seq
k_beta th t = bind (type_of th t) (λ b. bind (app_of t) (λ u. bind (lam_of u.func) (λ f. some (seq [] (equal b t (open_at 0 u.arg f.body))))))

-- DEDUCTION

--   --------- assume p        p has type bool
--     p ⊢ p
abbrev pub k_assume : Theory → Tm → Option Seq
k_assume th t = guard (has_type th t bool) (some (seq (t ∷ []) t))

--   Γ ⊢ p = q     Δ ⊢ p
--   --------------------- eqmp        p and q have type bool
--         Γ ∪ Δ ⊢ q
abbrev pub k_eqmp : Seq → Seq → Option Seq
k_eqmp p q = bind (sides p.concl) (λ s. guard (same_ty s.ty bool && same_tm s.left q.concl) (some (seq (union p.hyps q.hyps) s.right)))

--         Γ ⊢ p     Δ ⊢ q
--   ----------------------------- anti
--   (Γ - q) ∪ (Δ - p) ⊢ p = q
abbrev pub k_anti : Seq → Seq → Option Seq
k_anti p q = some (seq (union (remove q.concl p.hyps) (remove p.concl q.hyps)) (equal bool p.concl q.concl))

-- SUBSTITUTION

-- an entry fits if its type is ok and its term has it; every entry must, used or not
abbrev pub ok_entry : Theory → Entry → Bool
ok_entry th e = ok_ty th e.ty && has_type th e.tm e.ty

--       Γ ⊢ p
--   ------------- inst σ        σ: terms for free variables, of their types
--     Γσ ⊢ pσ
abbrev pub k_inst : Theory → Subst → Seq → Option Seq
k_inst th es p = guard (all (ok_entry th) es) (some (seq (dedup (map (subst_tm es) p.hyps)) (subst_tm es p.concl)))

--       Γ ⊢ p
--   ------------- types θ        θ: ok types for type variables
--     Γθ ⊢ pθ
abbrev pub k_types : Theory → TySubst → Seq → Option Seq
k_types th es p = guard (all (λ e. ok_ty th e.ty) es) (some (seq (dedup (map (inst_tm es) p.hyps)) (inst_tm es p.concl)))

-- AXIOMS

--   --------------------- eta f        f has a function type
--    ⊢ (λ x. f x) = f
abbrev pub k_eta : Theory → Tm → Option Seq
k_eta th t = bind (type_of th t) (λ a. bind (arrow a) (λ f. some (seq [] (equal a (lam f.dom (app t (bvar 0))) t))))

--   --------------------- some p x        x has a type A, and p type A -> bool
--    p x ⊢ p (@ p)
abbrev pub k_some : Theory → Tm → Tm → Option Seq
k_some th p x = bind (type_of th x) (λ a. guard (has_type th p (fun a bool)) (some (seq (app p x ∷ []) (app p (app (const w_choice (one a)) p)))))

-- WHAT WAS DECLARED

pub record Definition : Type 0 where
  pub ty : Ty
  pub body : Tm

abbrev pub find_def : Theory → Word → Option Definition
find_def [] w = none
find_def (d_type c ∷ th) w = find_def th w
find_def (d_const c a ∷ th) w = find_def th w
find_def (d_def c a t ∷ th) w = cond (same_word w c) (some (record { ty = a; body = t })) (find_def th w)
find_def (d_axiom v t ∷ th) w = find_def th w
find_def (d_thm v s ∷ th) w = find_def th w

--   --------------- unfold c As        c is defined as t; As: ok types for the type variables of its type, in their order
--    ⊢ c As = tθ                       θ puts As for them
abbrev pub k_unfold : Theory → Word → Tys → Option Seq
k_unfold th c as₁ = bind (find_def th c) (λ d. bind (const_at th c as₁) (λ b. some (seq [] (equal b (const c as₁) (inst_tm (zip (tyvars_ty d.ty []) as₁) d.body)))))

-- the axiom or theorem w
abbrev pub k_known : Theory → Word → Option Seq
k_known th w = known th w

-- STEPS of a proof. Numbers i and j name the sequents that earlier steps found, from 0.
pub data Step : Type 0 where
  s_refl : Tm → Step
  s_trans : ℕ → ℕ → Step
  s_use : ℕ → ℕ → Step
  s_lam : Word → Ty → ℕ → Step
  s_beta : Tm → Step
  s_assume : Tm → Step
  s_eqmp : ℕ → ℕ → Step
  s_anti : ℕ → ℕ → Step
  s_inst : ℕ → Subst → Step
  s_types : ℕ → TySubst → Step
  s_eta : Tm → Step
  s_some : Tm → Tm → Step
  s_unfold : Word → Tys → Step
  s_known : Word → Step

abbrev pub on_one : List Seq → ℕ → (Seq → Option Seq) → Option Seq
on_one ps i f = bind (nth ps i) f

abbrev pub on_two : List Seq → ℕ → ℕ → (Seq → Seq → Option Seq) → Option Seq
on_two ps i j f = bind (nth ps i) (λ p. bind (nth ps j) (λ q. f p q))

-- what a step finds, where ps were found before it
abbrev pub step : Theory → List Seq → Step → Option Seq
step th ps (s_refl t) = k_refl th t
step th ps (s_trans i j) = on_two ps i j k_trans
step th ps (s_use i j) = on_two ps i j k_use
step th ps (s_lam x a i) = on_one ps i (k_lam th x a)
step th ps (s_beta t) = k_beta th t
step th ps (s_assume t) = k_assume th t
step th ps (s_eqmp i j) = on_two ps i j k_eqmp
step th ps (s_anti i j) = on_two ps i j k_anti
step th ps (s_inst i es) = on_one ps i (k_inst th es)
step th ps (s_types i es) = on_one ps i (k_types th es)
step th ps (s_eta t) = k_eta th t
step th ps (s_some p x) = k_some th p x
step th ps (s_unfold c as₁) = k_unfold th c as₁
step th ps (s_known w) = k_known th w
