-- Typing where λs around a term come and go: weakening, opening and closing, terms for free variables.
use Rattle.std.proofs.Common.{◌≡◌, ℕ, zero, suc, ◌+◌, true, false, eqb, ◌⊎◌, List, [], ◌∷◌, refl, inl, inr, add-one}
use mathlib.Core.Option.{some}
use lib.Dec.{eqb-zero-suc, eqb-suc-suc}
use Rattle.hol.specs.Base.{nth, all, Word}
use Rattle.hol.specs.Syntax.{Ty, Tm, fun, open_at, same_var, close_at, abstract, Subst, find_tm, subst_tm}
use Rattle.hol.specs.Theory.{Theory, ok_ty}
use Rattle.hol.specs.Kernel.{ok_entry}
use Rattle.hol.proofs.Tools.{decided, both, some_same, none_some}
use Rattle.hol.proofs.Equality.{var_eq}
use Rattle.hol.proofs.Typing.{Has, has_fvar, has_bvar, has_const, has_app, has_lam, of_type}

-- WEAKENING. g' is g with more λs further out.
pub data Longer : List Ty → List Ty → Type 0 where
  longer_any : {g' : List Ty} → Longer [] g'
  longer_under : {a : Ty} {g g' : List Ty} → Longer g g' → Longer (a ∷ g) (a ∷ g')

pub longer_nth : {g g' : List Ty} → Longer g g' → (n : ℕ) {b : Ty} → nth g n ≡ some b → nth g' n ≡ some b
longer_nth longer_any n e = none_some e
longer_nth (longer_under l) zero e = e
longer_nth (longer_under l) (suc n) e = longer_nth l n e

pub has_longer : {th : Theory} {g g' : List Ty} {t : Tm} {a : Ty} → Longer g g' → Has th g t a → Has th g' t a
has_longer l (has_fvar o) = has_fvar o
has_longer l (has_bvar {n = n} e) = has_bvar (longer_nth l n e)
has_longer l (has_const e) = has_const e
has_longer l (has_app f x) = has_app (has_longer l f) (has_longer l x)
has_longer l (has_lam o t) = has_lam o (has_longer (longer_under l) t)

-- THE OUTERMOST λ. g' is g with one λ more around all, over type a; its place is n.
pub data Outermost (a : Ty) : ℕ → List Ty → List Ty → Type 0 where
  outermost_only : Outermost a 0 [] (a ∷ [])
  outermost_under : {b : Ty} {n : ℕ} {g g' : List Ty} → Outermost a n g g' → Outermost a (n + 1) (b ∷ g) (b ∷ g')

pub outermost_longer : {a : Ty} {n : ℕ} {g g' : List Ty} → Outermost a n g g' → Longer g g'
outermost_longer outermost_only = longer_any
outermost_longer (outermost_under u) = longer_under (outermost_longer u)

pub outermost_nth : {a : Ty} {n : ℕ} {g g' : List Ty} → Outermost a n g g' → nth g' n ≡ some a
outermost_nth outermost_only = refl
outermost_nth (outermost_under {n = n} u) = rw add-one (outermost_nth u)

-- a place in g' is that of the new λ, or one in g
pub at_outermost : {a : Ty} {n : ℕ} {g g' : List Ty} → Outermost a n g g' → (k : ℕ) {b : Ty} → nth g' k ≡ some b
    → ((eqb k n ≡ true) × (a ≡ b)) ⊎ ((eqb k n ≡ false) × (nth g k ≡ some b))
at_outermost outermost_only zero e = inl (refl, some_same e)
at_outermost outermost_only (suc k) e = none_some e
at_outermost (outermost_under {n = n} u) zero e = inr (rw (add-one, eqb-zero-suc n), e)
at_outermost (outermost_under {n = n} u) (suc k) e = elim (at_outermost u k e) [
  | inl h ↦ inl (rw (add-one, eqb-suc-suc k n) h.0, h.1)
  | inr h ↦ inr (rw (add-one, eqb-suc-suc k n) h.0, h.1)
]

-- a term for the variable of the outermost λ
pub open_has : {th : Theory} {a : Ty} {s : Tm} {g' g : List Ty} {n : ℕ} {t : Tm} {b : Ty} → Outermost a n g g'
    → Has th [] s a → Has th g' t b
    → Has th g (open_at n s t) b
open_has u s (has_fvar o) = has_fvar o
open_has {b = b} u s (has_bvar {n = k} e) = elim (at_outermost u k e) [
  | inl h ↦ rw (h.0, ← h.1) (has_longer longer_any s)
  | inr h ↦ rw h.0 (has_bvar h.1)
]
open_has u s (has_const e) = has_const e
open_has u s (has_app f x) = has_app (open_has u s f) (open_has u s x)
open_has u s (has_lam o t) = has_lam o (open_has (outermost_under u) s t)

-- a free variable becomes the variable of the outermost λ
pub close_has : {th : Theory} {a : Ty} (x : Word) {g g' : List Ty} {n : ℕ} {t : Tm} {b : Ty} → Outermost a n g g' → Has th g t b
    → Has th g' (close_at n x a t) b
close_has {a = a} x u (has_fvar {x = y} {a = b} o) = elim (decided (same_var x a y b)) [
  | inl e ↦ rw (e, ← (var_eq x a y b e).1) (has_bvar (outermost_nth u))
  | inr e ↦ rw e (has_fvar o)
]
close_has x u (has_bvar {n = k} e) = has_bvar (longer_nth (outermost_longer u) k e)
close_has x u (has_const e) = has_const e
close_has x u (has_app f y) = has_app (close_has x u f) (close_has x u y)
close_has x u (has_lam o t) = has_lam o (close_has x (outermost_under u) t)

pub abstract_has : {th : Theory} {a : Ty} {t : Tm} {b : Ty} (x : Word) → ok_ty th a ≡ true → Has th [] t b
    → Has th [] (abstract x a t) (fun a b)
abstract_has x o t = has_lam o (close_has x outermost_only t)

-- TERMS FOR FREE VARIABLES
pub find_has : {th : Theory} (es : Subst) (x : Word) (a : Ty) → all (ok_entry th) es ≡ true → ok_ty th a ≡ true
    → Has th [] (find_tm es x a) a
find_has [] x a h o = has_fvar o
find_has {th} (e ∷ es) x a h o = elim (decided (same_var x a e.name e.ty)) [
  | inl s ↦ rw (s, (var_eq x a e.name e.ty s).1) (of_type th e.tm e.ty (both (ok_ty th e.ty) _ (both _ _ h).0).1)
  | inr s ↦ rw s (find_has es x a (both _ _ h).1 o)
]

pub subst_has : {th : Theory} {g : List Ty} {t : Tm} {b : Ty} (es : Subst) → all (ok_entry th) es ≡ true → Has th g t b
    → Has th g (subst_tm es t) b
subst_has es h (has_fvar {x = x} {a = a} o) = has_longer longer_any (find_has es x a h o)
subst_has es h (has_bvar e) = has_bvar e
subst_has es h (has_const e) = has_const e
subst_has es h (has_app f x) = has_app (subst_has es h f) (subst_has es h x)
subst_has es h (has_lam o t) = has_lam o (subst_has es h t)
