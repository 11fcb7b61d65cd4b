-- Types and values together, as a relation: a term that has a type denotes its value, and a term that denotes n has the value n.
use Rattle.std.proofs.Common.{◌≡◌, ℕ, zero, suc, ◌<◌, true, List, [], ◌∷◌, refl}
use mathlib.Core.Option.{some}
use Rattle.hol.specs.Base.{option, Word, nth}
use Rattle.hol.specs.Syntax.{Ty, Tys, Tm, fvar, bvar, const, app, lam, fun}
use Rattle.hol.specs.Theory.{Theory, ok_ty, const_at}
use Rattle.hol.specs.Models.{Model, Consts, Cards, Values, card_ty, card_tys, encode, digit, const_value, value, Valuation}
use Rattle.hol.proofs.Tools.{some_same, none_some}
use Rattle.hol.proofs.Typing.{Has, has_fvar, has_bvar, has_const, has_app, has_lam, type_is}
use Rattle.hol.proofs.Codes.{encode_lt, encode_ext, digit_lt}
use Rattle.hol.proofs.Cards.{card_pos}

-- t has type a where g has the types of the λs around it, and is worth n where vs has the values of their variables
module _ (th : Theory) (m : Model) (k : Consts) (z : Cards) (w : Values) where
  pub data Denotes : List Ty → List ℕ → Tm → Ty → ℕ → Type 0 where
    den_fvar : {g : List Ty} {vs : List ℕ} {x : Word} {a : Ty} → ok_ty th a ≡ true → Denotes g vs (fvar x a) a (w x a)
    den_bvar : {g : List Ty} {vs : List ℕ} {n v : ℕ} {a : Ty} → nth g n ≡ some a → nth vs n ≡ some v → Denotes g vs (bvar n) a v
    den_const : {g : List Ty} {vs : List ℕ} {c : Word} {as₁ : Tys} {a : Ty} → const_at th c as₁ ≡ some a
        → Denotes g vs (const c as₁) a (const_value k c (card_tys m z as₁))
    den_app : {g : List Ty} {vs : List ℕ} {f x : Tm} {a b : Ty} {p v : ℕ} → Denotes g vs f (fun a b) p → Denotes g vs x a v
        → Denotes g vs (app f x) b (digit (card_ty m z b) p v)
    den_lam : {g : List Ty} {vs : List ℕ} {t : Tm} {a b : Ty} {h : ℕ → ℕ} → ok_ty th a ≡ true
        → ((n : ℕ) → Denotes (a ∷ g) (n ∷ vs) t b (h n))
        → Denotes g vs (lam a t) (fun a b) (encode (card_ty m z b) h (card_ty m z a))

-- as many values as types
pub data Beside : List Ty → List ℕ → Type 0 where
  beside_nil : Beside [] []
  beside_cons : {g : List Ty} {vs : List ℕ} {a : Ty} {v : ℕ} → Beside g vs → Beside (a ∷ g) (v ∷ vs)

beside_at : {g : List Ty} {vs : List ℕ} (n : ℕ) {a : Ty} → Beside g vs → nth g n ≡ some a
    → nth vs n ≡ some (option (nth vs n) 0 (λ v. v))
beside_at n beside_nil e = none_some e
beside_at zero (beside_cons b) e = refl
beside_at (suc n) (beside_cons b) e = beside_at n b e

module _ {th : Theory} {m : Model} {k : Consts} {z : Cards} {w : Values} where
  pub denotes_has : {g : List Ty} {vs : List ℕ} {t : Tm} {a : Ty} {n : ℕ} → Denotes th m k z w g vs t a n → Has th g t a
  denotes_has (den_fvar o) = has_fvar o
  denotes_has (den_bvar e q) = has_bvar e
  denotes_has (den_const e) = has_const e
  denotes_has (den_app f x) = has_app (denotes_has f) (denotes_has x)
  denotes_has (den_lam o t) = has_lam o (denotes_has (t 0))

  pub denotes : {g : List Ty} {vs : List ℕ} {t : Tm} {a : Ty} → Beside g vs → Has th g t a
      → Denotes th m k z w g vs t a (value th m k z w g vs t)
  denotes b (has_fvar o) = den_fvar o
  denotes b (has_bvar {n = n} e) = den_bvar e (beside_at n b e)
  denotes b (has_const e) = den_const e
  denotes b (has_app f x) = rw (type_is f) (den_app (denotes b f) (denotes b x))
  denotes b (has_lam o t) = rw (type_is t) (den_lam o (λ n. denotes (beside_cons b) t))

  pub value_is : {g : List Ty} {vs : List ℕ} {t : Tm} {a : Ty} {n : ℕ} → Denotes th m k z w g vs t a n
      → value th m k z w g vs t ≡ n
  value_is (den_fvar o) = refl
  value_is (den_bvar e q) = rw q
  value_is (den_const e) = refl
  value_is (den_app f x) = rw (type_is (denotes_has f), value_is f, value_is x)
  value_is (den_lam {a = a} {b = b} {h = h} o t) =
      rw (type_is (denotes_has (t 0))) (encode_ext (card_ty m z b) _ h (card_ty m z a) (λ n l. value_is (t n)))

-- ELEMENTS OF TYPES. Each value is an element of its type.
pub data Fits (m : Model) (z : Cards) : List Ty → List ℕ → Type 0 where
  fits-nil : Fits m z [] []
  fits-cons : {g : List Ty} {vs : List ℕ} {a : Ty} {v : ℕ} → v < card_ty m z a → Fits m z g vs → Fits m z (a ∷ g) (v ∷ vs)

fits_at : {m : Model} {z : Cards} {g : List Ty} {vs : List ℕ} (n : ℕ) {a : Ty} {v : ℕ} → Fits m z g vs
    → nth g n ≡ some a → nth vs n ≡ some v → v < card_ty m z a
fits_at n fits-nil e q = none_some e
fits_at zero (fits-cons l f) e q = rw (some_same e, some_same q) at l
fits_at (suc n) (fits-cons l f) e q = fits_at n f e q

-- the constants of a theory are worth elements of their types
pub record ConstsFit (th : Theory) (m : Model) (k : Consts) (z : Cards) : Type 0 where
  pub below : (c : Word) (as₁ : Tys) (a : Ty) → const_at th c as₁ ≡ some a → const_value k c (card_tys m z as₁) < card_ty m z a

-- then so is every term
module _ {th : Theory} {m : Model} {k : Consts} {z : Cards} {w : Values} (v : Valuation m z w) (fit : ConstsFit th m k z) where
  pub denotes_lt : {g : List Ty} {vs : List ℕ} {t : Tm} {a : Ty} {n : ℕ} → Fits m z g vs → Denotes th m k z w g vs t a n
      → n < card_ty m z a
  denotes_lt f (den_fvar {x = x} {a = a} o) = v.fits x a
  denotes_lt f (den_bvar {n = n} e q) = fits_at n f e q
  denotes_lt f (den_const {c = c} {as₁ = as₁} {a = a} e) = fit.below c as₁ a e
  denotes_lt f (den_app {b = b} {p = p} {v = x} d e) = digit_lt (card_ty m z b) p x (card_pos m z v.inhabited b)
  denotes_lt f (den_lam {a = a} {b = b} {h = h} o d) =
      encode_lt (card_ty m z b) h (card_ty m z a) (λ n l. denotes_lt (fits-cons l f) (d n))
