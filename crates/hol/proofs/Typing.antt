-- Which term has which type, as a relation: it holds exactly where the function finds the type.
use Rattle.std.proofs.Common.{◌≡◌, ℕ, true, List, [], ◌∷◌, sym, refl, ◌∙◌}
use mathlib.Core.Option.{some}
use Rattle.hol.specs.Base.{Word, nth}
use Rattle.hol.specs.Syntax.{Ty, tyvar, tyapp, Tys, tnil, tcons, Tm, fvar, bvar, const, app, lam, w_fun, w_eq, w_choice, bool, fun, one, Arrow, arrow, equal}
use Rattle.hol.specs.Theory.{Theory, ok_ty, const_at, type_in, type_of, has_type}
use Rattle.hol.proofs.Tools.{◌>>=◌, both, some_same, none_some, bound, guarded, holds_of}
use Rattle.hol.proofs.Equality.{word_eq, ty_eq, ty_refl}

pub data Has (th : Theory) : List Ty → Tm → Ty → Type 0 where
  has_fvar : {g : List Ty} {x : Word} {a : Ty} → ok_ty th a ≡ true → Has th g (fvar x a) a
  has_bvar : {g : List Ty} {n : ℕ} {a : Ty} → nth g n ≡ some a → Has th g (bvar n) a
  has_const : {g : List Ty} {c : Word} {as₁ : Tys} {a : Ty} → const_at th c as₁ ≡ some a → Has th g (const c as₁) a
  has_app : {g : List Ty} {f x : Tm} {a b : Ty} → Has th g f (fun a b) → Has th g x a → Has th g (app f x) b
  has_lam : {g : List Ty} {t : Tm} {a b : Ty} → ok_ty th a ≡ true → Has th (a ∷ g) t b → Has th g (lam a t) (fun a b)

-- a type with the parts of a function type is one
pub arrow_is : (a : Ty) {r : Arrow} → arrow a ≡ some r → a ≡ fun r.dom r.cod
arrow_is (tyvar a) e = none_some e
arrow_is (tyapp c tnil) e = none_some e
arrow_is (tyapp c (tcons a tnil)) e = none_some e
arrow_is (tyapp c (tcons a (tcons b tnil))) e = let (n, s) = guarded _ _ e in rw (word_eq c w_fun n, ← some_same s)
arrow_is (tyapp c (tcons a (tcons b (tcons d ds)))) e = none_some e

-- a term has whatever equals its type
pub retype : {th : Theory} {g : List Ty} {t : Tm} {a b : Ty} → some a ≡ some b → Has th g t a → Has th g t b
retype e h = rw (some_same e) at h

pub has : (th : Theory) (g : List Ty) (t : Tm) {a : Ty} → type_in th g t ≡ some a → Has th g t a
has th g (fvar x b) e = let (o, s) = guarded _ _ e in retype s (has_fvar o)
has th g (bvar n) e = has_bvar e
has th g (const c as₁) e = has_const e
has th g (app f x) e = do
  (b, f_has, e₁) ← bound (type_in th g f) _ e
  (r, b_is, e₂) ← bound (arrow b) _ e₁
  (d, x_has, e₃) ← bound (type_in th g x) _ e₂
  (same, s) ← guarded _ _ e₃
  has_app (rw (arrow_is b b_is, ty_eq r.dom d same, some_same s) at (has th g f f_has)) (has th g x x_has)
has th g (lam b t) e = do
  (o, e₁) ← guarded _ _ e
  (c, t_has, s) ← bound (type_in th (b ∷ g) t) _ e₁
  retype s (has_lam o (has th (b ∷ g) t t_has))

pub type_is : {th : Theory} {g : List Ty} {t : Tm} {a : Ty} → Has th g t a → type_in th g t ≡ some a
type_is (has_fvar o) = rw o
type_is (has_bvar e) = e
type_is (has_const e) = e
type_is (has_app {a = a} f x) = rw (type_is f, type_is x, ty_refl a)
type_is (has_lam o t) = rw (o, type_is t)

-- a term has one type
pub has_one : {th : Theory} {g : List Ty} {t : Tm} {a b : Ty} → Has th g t a → Has th g t b → a ≡ b
has_one p q = some_same (sym (type_is p) ∙ type_is q)

-- the test whether a term has a type
pub of_type : (th : Theory) (t : Tm) (a : Ty) → has_type th t a ≡ true → Has th [] t a
of_type th t a h = let (b, e, s) = holds_of (type_of th t) _ h in rw (ty_eq a b s) (has th [] t e)

pub is_of_type : {th : Theory} {t : Tm} {a : Ty} → Has th [] t a → has_type th t a ≡ true
is_of_type {a = a} h = rw (type_is h) (ty_refl a)

-- APPLICATIONS, ABSTRACTIONS AND EQUATIONS taken apart
pub record AppHas (th : Theory) (g : List Ty) (f x : Tm) (b : Ty) : Type 0 where
  pub dom : Ty
  pub func : Has th g f (fun dom b)
  pub arg : Has th g x dom

pub app-parts : {th : Theory} {g : List Ty} {f x : Tm} {b : Ty} → Has th g (app f x) b → AppHas th g f x b
app-parts (has_app {a = a} f x) = record { dom = a; func = f; arg = x }

pub record LamHas (th : Theory) (g : List Ty) (a : Ty) (t : Tm) (b : Ty) : Type 0 where
  pub cod : Ty
  pub ok : ok_ty th a ≡ true
  pub is : b ≡ fun a cod
  pub body : Has th (a ∷ g) t cod

pub lam-parts : {th : Theory} {g : List Ty} {a : Ty} {t : Tm} {b : Ty} → Has th g (lam a t) b → LamHas th g a t b
lam-parts (has_lam {b = c} o t) = record { cod = c; ok = o; is = refl; body = t }

-- function types are equal if their parts are
pub fun-dom : {a b c d : Ty} → fun a b ≡ fun c d → a ≡ c
fun-dom e = cc

pub fun-cod : {a b c d : Ty} → fun a b ≡ fun c d → b ≡ d
fun-cod e = cc

-- the constant = at a
pub eq_has : {th : Theory} {g : List Ty} {a : Ty} → ok_ty th a ≡ true → Has th g (const w_eq (one a)) (fun a (fun a bool))
eq_has {th} {g} {a} o = has_const (rw o)

pub eq_is : {th : Theory} {g : List Ty} {a b : Ty} → Has th g (const w_eq (one a)) b
    → (ok_ty th a ≡ true) × (b ≡ fun a (fun a bool))
eq_is (has_const e) = do
  (o, s) ← guarded _ _ e
  ((both _ _ o).0, sym (some_same s))

-- the constant @ at a
pub choice_has : {th : Theory} {g : List Ty} {a : Ty} → ok_ty th a ≡ true → Has th g (const w_choice (one a)) (fun (fun a bool) a)
choice_has {th} {g} {a} o = has_const (rw o)

-- an equation: both sides have the type of the equation, which is ok
pub record EqualHas (th : Theory) (g : List Ty) (a : Ty) (s t : Tm) (b : Ty) : Type 0 where
  pub ok : ok_ty th a ≡ true
  pub left : Has th g s a
  pub right : Has th g t a
  pub is : b ≡ bool

pub equal_has : {th : Theory} {g : List Ty} {a : Ty} {s t : Tm} → ok_ty th a ≡ true → Has th g s a → Has th g t a
    → Has th g (equal a s t) bool
equal_has o s t = has_app (has_app (eq_has o) s) t

pub equal-parts : {th : Theory} {g : List Ty} {a : Ty} {s t : Tm} {b : Ty} → Has th g (equal a s t) b → EqualHas th g a s t b
equal-parts (has_app (has_app e x) y) = do
  (o, f_is) ← eq_is e
  (record { ok = o; left = rw (fun-dom f_is) at x; right = rw (fun-dom (fun-cod f_is)) at y; is = fun-cod (fun-cod f_is) })
