-- In a well-formed theory the types of constants and of terms are ok.
use Rattle.std.proofs.Common.{◌≡◌, true, ◌⊎◌, List, [], ◌∷◌, refl, inl, inr, arith}
use mathlib.Core.Option.{some}
use Rattle.hol.specs.Base.{all, Word, same_word}
use Rattle.hol.specs.Syntax.{Ty, Tys, Tm, w_eq, w_choice, fun, tyvars_ty}
use Rattle.hol.specs.Theory.{d_type, d_const, d_def, d_axiom, d_thm, Theory, const_ty, ok_ty, const_at}
use Rattle.hol.specs.Says.{Wf, wf_nil, wf_cons}
use Rattle.hol.proofs.Tools.{◌>>=◌, decided, both, and_both, some_same, none_some, all_at}
use Rattle.hol.proofs.Typing.{Has, has_fvar, has_bvar, has_const, has_app, has_lam, of_type}
use Rattle.hol.proofs.Growth.{grows_by, ok_grows}
use Rattle.hol.proofs.TypeSubst.{subst_ok, zip_ok, const_is}

-- the parts of a function type that is ok, and back
pub fun_ok : (th : Theory) (a b : Ty) → ok_ty th a ≡ true → ok_ty th b ≡ true → ok_ty th (fun a b) ≡ true
fun_ok th a b p q = rw (p, q)

pub dom_ok : (th : Theory) (a b : Ty) → ok_ty th (fun a b) ≡ true → ok_ty th a ≡ true
dom_ok th a b h = (both _ _ h).0

pub cod_ok : (th : Theory) (a b : Ty) → ok_ty th (fun a b) ≡ true → ok_ty th b ≡ true
cod_ok th a b h = (both _ _ (both _ _ h).1).0

-- the type of each constant is ok
pub record ConstsOk (th : Theory) : Type 0 where
  pub ok : (c : Word) {a : Ty} → const_ty th c ≡ some a → ok_ty th a ≡ true

-- then so is that of a constant at ok types, and that of a term
pub const_at_ok : {th : Theory} → ConstsOk th → (c : Word) (as₁ : Tys) {a : Ty} → const_at th c as₁ ≡ some a → ok_ty th a ≡ true
const_at_ok {th} oks c as₁ e = do
  k ← const_is th c as₁ e
  rw k.is (subst_ok th _ (zip_ok th (tyvars_ty k.ty []) as₁ k.ok) k.ty (oks.ok c k.found))

pub has_ok : {th : Theory} → ConstsOk th → {g : List Ty} {t : Tm} {a : Ty} → all (ok_ty th) g ≡ true → Has th g t a
    → ok_ty th a ≡ true
has_ok oks h (has_fvar o) = o
has_ok {th} oks h (has_bvar {g = g} {n = n} e) = all_at (ok_ty th) g n h e
has_ok oks h (has_const {c = c} {as₁ = as₁} e) = const_at_ok oks c as₁ e
has_ok {th} oks h (has_app {a = a} {b = b} f x) = cod_ok th a b (has_ok oks h f)
has_ok {th} oks h (has_lam {a = a} {b = b} o t) = fun_ok th a b o (has_ok oks (and_both o h) t)

-- a constant is an old one or the newest
old_or_new : (th : Theory) (c : Word) (a : Ty) (v : Word) {b : Ty} → const_ty (d_const c a ∷ th) v ≡ some b
    → (const_ty th v ≡ some b) ⊎ (a ≡ b)
old_or_new th c a v e = grind arith

consts_ok_at : {th : Theory} → Wf th → (v : Word) {b : Ty} → const_ty th v ≡ some b → ok_ty th b ≡ true
consts_ok_at wf_nil v e = elim (decided (same_word v w_eq)) [
  | inl p ↦ rw (← some_same (rw p at e))
  | inr p ↦
      elim (decided (same_word v w_choice)) [ inl q ↦ rw (← some_same (rw (p, q) at e)) | inr q ↦ none_some (rw (p, q) at e) ]
]
consts_ok_at (wf_cons {d = d_type c} {th = th} h j w) v {b} e = ok_grows (grows_by {th = th} (d_type c) h) b (consts_ok_at w v e)
consts_ok_at (wf_cons {d = d_const c a} {th = th} h j w) v {b} e = do
  grows ← grows_by {th = th} (d_const c a) h
  elim (old_or_new th c a v e) [
    | inl old ↦ ok_grows grows b (consts_ok_at w v old)
    | inr new ↦ let a_ok : ok_ty th a ≡ true = (both _ _ h).1 in ok_grows grows b (rw new at a_ok)
  ]
consts_ok_at (wf_cons {d = d_def c a t} {th = th} h j w) v {b} e = do
  grows ← grows_by {th = th} (d_def c a t) h
  t_has ← of_type th t a (both _ _ (both _ _ h).1).0
  elim (old_or_new th c a v e) [
    | inl old ↦ ok_grows grows b (consts_ok_at w v old)
    | inr new ↦ ok_grows grows b (has_ok (record { ok = λ v e. consts_ok_at w v e }) refl (rw new at t_has))
  ]
consts_ok_at (wf_cons {d = d_axiom c t} {th = th} h j w) v {b} e =
    ok_grows (grows_by {th = th} (d_axiom c t) h) b (consts_ok_at w v e)
consts_ok_at (wf_cons {d = d_thm c s} {th = th} h j w) v {b} e =
    ok_grows (grows_by {th = th} (d_thm c s) h) b (consts_ok_at w v e)

pub consts_ok : {th : Theory} → Wf th → ConstsOk th
consts_ok w = record { ok = λ v e. consts_ok_at w v e }

-- the type of a term with no λ around it
pub type_ok : {th : Theory} {t : Tm} {a : Ty} → Wf th → Has th [] t a → ok_ty th a ≡ true
type_ok w h = has_ok (consts_ok w) refl h
