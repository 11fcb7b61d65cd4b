-- A theory grows by each declaration that is admissible: types, typing and derivations stay as they were.
use Rattle.std.proofs.Common.{◌≡◌, ℕ, true, false, eqb, List, [], ◌∷◌, length, refl, inl, inr}
use mathlib.Core.Option.{Option, some}
use Rattle.hol.specs.Base.{option, is_some, Word, same_word}
use Rattle.hol.specs.Syntax.{Ty, tyvar, tyapp, Tys, tnil, tcons, Tm, app, lam, bool, count_tys, tyvars_ty, Entry}
use Rattle.hol.specs.Theory.{Decl, d_type, d_const, d_def, d_axiom, d_thm, Theory, Declared, newest, older, type_arity, const_ty, ok_ty, ok_tys, const_at, type_of, has_type, admissible}
use Rattle.hol.specs.Kernel.{ok_entry}
use Rattle.hol.specs.Rules.{Derives, r_refl, r_trans, r_use, r_lam, r_beta, r_assume, r_eqmp, r_anti, r_inst, r_types, r_eta, r_some, r_unfold, r_known, r_more}
use Rattle.hol.specs.Says.{Justified, Wf, wf_nil, wf_cons}
use Rattle.hol.proofs.Tools.{◌>>=◌, decided, clash, both, and_both, nor, not_true, bound, guarded, holds_of, all_more}
use Rattle.hol.proofs.Equality.{word_eq}
use Rattle.hol.proofs.Typing.{Has, has_fvar, has_bvar, has_const, has_app, has_lam, has, type_is, of_type, is_of_type}

-- what th has, th' has, the same
pub record Grows (th th' : Theory) : Type 0 where
  pub types : (w : Word) {n : ℕ} → type_arity th w ≡ some n → type_arity th' w ≡ some n
  pub consts : (w : Word) {a : Ty} → const_ty th w ≡ some a → const_ty th' w ≡ some a
  pub decls : {d : Decl} → Declared th d → Declared th' d

pub grows_refl : {th : Theory} → Grows th th
grows_refl = record { types = λ w e. e; consts = λ w e. e; decls = λ d. d }

pub grows_trans : {th₁ th₂ th₃ : Theory} → Grows th₁ th₂ → Grows th₂ th₃ → Grows th₁ th₃
grows_trans g h =
    record {
      types = λ w e. h.types w (g.types w e);
      consts = λ w e. h.consts w (g.consts w e);
      decls = λ d. h.decls (g.decls d);
    }

-- a name that is there differs from one that is not
pub apart : {A : Type 0} (look : Word → Option A) (w c : Word) {x : A} → look w ≡ some x → is_some (look c) ≡ false
    → same_word w c ≡ false
apart look w c e n = elim (decided (same_word w c)) [ inl s ↦ clash (rw (← word_eq w c s, e)) n | inr s ↦ s ]

pub grows_by : {th : Theory} (d : Decl) → admissible th d ≡ true → Grows th (d ∷ th)
grows_by {th} (d_type c) h =
    record { types = λ w e. rw (apart (type_arity th) w c e (nor _ _ h).0) e; consts = λ w e. e; decls = older }
grows_by {th} (d_const c a) h =
    record { types = λ w e. e; consts = λ w e. rw (apart (const_ty th) w c e (not_true _ (both _ _ h).0)) e; decls = older }
grows_by {th} (d_def c a t) h =
    record { types = λ w e. e; consts = λ w e. rw (apart (const_ty th) w c e (not_true _ (both _ _ h).0)) e; decls = older }
grows_by (d_axiom w t) h = record { types = λ w e. e; consts = λ w e. e; decls = older }
grows_by (d_thm w s) h = record { types = λ w e. e; consts = λ w e. e; decls = older }

-- TYPES AND TERMS
module _ {th th' : Theory} (grows : Grows th th') where
  mutual
    pub ok_grows : (a : Ty) → ok_ty th a ≡ true → ok_ty th' a ≡ true
    ok_grows (tyvar a) h = refl
    ok_grows (tyapp c as₁) h = do
      (p, q) ← both (option (type_arity th c) false (eqb (count_tys as₁))) _ h
      (n, e, s) ← holds_of _ _ p
      rw (grows.types c e, s) (oks_grow as₁ q)

    pub oks_grow : (as₁ : Tys) → ok_tys th as₁ ≡ true → ok_tys th' as₁ ≡ true
    oks_grow tnil h = refl
    oks_grow (tcons a as₁) h = and_both (ok_grows a (both _ _ h).0) (oks_grow as₁ (both _ _ h).1)

  pub const-grows : (c : Word) (as₁ : Tys) {a : Ty} → const_at th c as₁ ≡ some a → const_at th' c as₁ ≡ some a
  const-grows c as₁ e = do
    (a, c_is, e₁) ← bound (const_ty th c) _ e
    (p, s) ← guarded _ _ e₁
    (n, o) ← both (eqb (count_tys as₁) (length (tyvars_ty a []))) _ p
    rw (grows.consts c c_is, n, oks_grow as₁ o) s

  pub has_grows : {g : List Ty} {t : Tm} {a : Ty} → Has th g t a → Has th' g t a
  has_grows (has_fvar {a = a} o) = has_fvar (ok_grows a o)
  has_grows (has_bvar e) = has_bvar e
  has_grows (has_const {c = c} {as₁ = as₁} e) = has_const (const-grows c as₁ e)
  has_grows (has_app f x) = has_app (has_grows f) (has_grows x)
  has_grows (has_lam {a = a} o t) = has_lam (ok_grows a o) (has_grows t)

  pub type_grows : (t : Tm) {a : Ty} → type_of th t ≡ some a → type_of th' t ≡ some a
  type_grows t e = type_is (has_grows (has th [] t e))

  pub has_type-grows : (t : Tm) (a : Ty) → has_type th t a ≡ true → has_type th' t a ≡ true
  has_type-grows t a h = is_of_type (has_grows (of_type th t a h))

  pub entry-grows : (e : Entry) → ok_entry th e ≡ true → ok_entry th' e ≡ true
  entry-grows e h = and_both (ok_grows e.ty (both _ _ h).0) (has_type-grows e.tm e.ty (both _ _ h).1)

  -- what can be derived
  pub derives_grows : {hs : List Tm} {t : Tm} → Derives th hs t → Derives th' hs t
  derives_grows (r_refl {t = t} e) = r_refl (type_grows t e)
  derives_grows (r_trans p q) = r_trans (derives_grows p) (derives_grows q)
  derives_grows (r_use p q) = r_use (derives_grows p) (derives_grows q)
  derives_grows (r_lam {a = a} x o f p) = r_lam x (ok_grows a o) f (derives_grows p)
  derives_grows (r_beta {a = a} {t = t} {s = s} e) = r_beta (type_grows (app (lam a t) s) e)
  derives_grows (r_assume {t = t} e) = r_assume (type_grows t e)
  derives_grows (r_eqmp p q) = r_eqmp (derives_grows p) (derives_grows q)
  derives_grows (r_anti p q) = r_anti (derives_grows p) (derives_grows q)
  derives_grows (r_inst es o p) = r_inst es (all_more _ (ok_entry th') entry-grows es o) (derives_grows p)
  derives_grows (r_types es o p) =
      r_types es (all_more _ (λ e. ok_ty th' e.ty) (λ e h. ok_grows e.ty h) es o) (derives_grows p)
  derives_grows (r_eta {t = t} e) = r_eta (type_grows t e)
  derives_grows (r_some {p = p} {x = x} e f) = r_some (type_grows x e) (type_grows p f)
  derives_grows (r_unfold {c = c} as₁ d e) = r_unfold as₁ (grows.decls d) (const-grows c as₁ e)
  derives_grows (r_known d) = r_known (grows.decls d)
  derives_grows (r_more {gs = gs} w o p) =
      r_more w (all_more _ (λ g. has_type th' g bool) (λ g h. has_type-grows g bool h) gs o) (derives_grows p)

-- WHAT WAS DECLARED was admissible in an older theory, from which this one grew.
pub record Since (th : Theory) (d : Decl) : Type 0 where
  pub before : Theory
  pub wf : Wf before
  pub admitted : admissible before d ≡ true
  pub justified : Justified before d
  pub grows : Grows (d ∷ before) th

pub since : {th : Theory} {d : Decl} → Wf th → Declared th d → Since th d
since wf_nil d = elim d [ ]
since (wf_cons {d = d} {th = th} a j w) newest = record { before = th; wf = w; admitted = a; justified = j; grows = grows_refl }
since (wf_cons {d = e} {th = th} a j w) (older d) =
    let s = since w d in
    record {
      before = s.before;
      wf = s.wf;
      admitted = s.admitted;
      justified = s.justified;
      grows = grows_trans s.grows (grows_by e a);
    }

-- what it grew from was there before the declaration
pub from_before : {th : Theory} {d : Decl} (s : Since th d) → Grows s.before th
from_before {d = d} s = grows_trans (grows_by d s.admitted) s.grows
