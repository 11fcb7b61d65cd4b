-- What can be derived: the rules as a relation. It allows more assumptions than the functions do, in any order and as often as one
-- likes. The name of a rule here is r- and its word; the function of the same word stands in Kernel.
use Rattle.std.specs.Prelude.{◌≡◌, true, false, List, [], ◌∷◌, ◌++◌, map}
use Rattle.std.proofs.Math.Option.{some}
use Rattle.hol.specs.Base.{Word, all, any}
use Rattle.hol.specs.Syntax.{Ty, Tys, Tm, bvar, const, app, lam, w_choice, bool, fun, one, equal, TySubst, inst_tm, tyvars_ty, zip, open_at, abstract, free_in, Subst, subst_tm}
use Rattle.hol.specs.Theory.{d_def, d_axiom, Theory, Declared, ok_ty, const_at, type_of, has_type}
use Rattle.hol.specs.Kernel.{in_hyps, remove, ok_entry}

-- each of hs is among gs
abbrev pub Within : List Tm → List Tm → Type 0
Within hs gs = all (λ h. in_hyps h gs) hs ≡ true

-- Derives th hs t: from the declarations th, hs ⊢ t. Theorems that were declared play no part.
pub data Derives (th : Theory) : List Tm → Tm → Type 0 where
  r_refl : {t : Tm} {a : Ty} → type_of th t ≡ some a → Derives th [] (equal a t t)
  r_trans : {hs gs : List Tm} {a : Ty} {s t u : Tm} → Derives th hs (equal a s t) → Derives th gs (equal a t u) → Derives th (hs ++ gs) (equal a s u)
  r_use : {hs gs : List Tm} {a b : Ty} {f g x y : Tm} → Derives th hs (equal (fun a b) f g) → Derives th gs (equal a x y) → Derives th (hs ++ gs) (equal b (app f x) (app g y))
  r_lam : {hs : List Tm} {a b : Ty} {s t : Tm} (x : Word) → ok_ty th a ≡ true → any (free_in x a) hs ≡ false → Derives th hs (equal b s t) → Derives th hs (equal (fun a b) (abstract x a s) (abstract x a t))
  r_beta : {a b : Ty} {t s : Tm} → type_of th (app (lam a t) s) ≡ some b → Derives th [] (equal b (app (lam a t) s) (open_at 0 s t))
  r_assume : {t : Tm} → type_of th t ≡ some bool → Derives th (t ∷ []) t
  r_eqmp : {hs gs : List Tm} {s t : Tm} → Derives th hs (equal bool s t) → Derives th gs s → Derives th (hs ++ gs) t
  r_anti : {hs gs : List Tm} {s t : Tm} → Derives th hs s → Derives th gs t → Derives th (remove t hs ++ remove s gs) (equal bool s t)
  r_inst : {hs : List Tm} {t : Tm} (es : Subst) → all (ok_entry th) es ≡ true → Derives th hs t → Derives th (map (subst_tm es) hs) (subst_tm es t)
  r_types : {hs : List Tm} {t : Tm} (es : TySubst) → all (λ e. ok_ty th e.ty) es ≡ true → Derives th hs t → Derives th (map (inst_tm es) hs) (inst_tm es t)
  r_eta : {t : Tm} {a b : Ty} → type_of th t ≡ some (fun a b) → Derives th [] (equal (fun a b) (lam a (app t (bvar 0))) t)
  r_some : {p x : Tm} {a : Ty} → type_of th x ≡ some a → type_of th p ≡ some (fun a bool) → Derives th (app p x ∷ []) (app p (app (const w_choice (one a)) p))
  r_unfold : {c : Word} {a b : Ty} {t : Tm} (as₁ : Tys) → Declared th (d_def c a t) → const_at th c as₁ ≡ some b → Derives th [] (equal b (const c as₁) (inst_tm (zip (tyvars_ty a []) as₁) t))
  r_known : {w : Word} {t : Tm} → Declared th (d_axiom w t) → Derives th [] t
  r_more : {hs gs : List Tm} {t : Tm} → Within hs gs → all (λ g. has_type th g bool) gs ≡ true → Derives th hs t → Derives th gs t
