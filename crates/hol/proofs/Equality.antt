-- The tests for equality of names, types and terms are true exactly where the two are equal.
use Rattle.std.proofs.Common.{◌≡◌, ℕ, true, List, [], ◌∷◌, refl, ap, ap₂, eq-eqb, eqb-true}
use Rattle.hol.specs.Base.{Word, same_word, among}
use Rattle.hol.specs.Syntax.{Ty, tyvar, tyapp, Tys, tnil, tcons, Tm, fvar, bvar, const, app, lam, same_ty, same_tys, same_tm, same_var}
use Rattle.hol.specs.Kernel.{in_hyps}
use Rattle.hol.proofs.Tools.{clash, both, and_both, In, any_in, in_any}

pub word_eq : (v w : Word) → same_word v w ≡ true → v ≡ w
word_eq [] [] h = refl
word_eq [] (y ∷ ys) h = clash h refl
word_eq (x ∷ xs) [] h = clash h refl
word_eq (x ∷ xs) (y ∷ ys) h = ap₂ (λ (a : ℕ) (b : List ℕ). a ∷ b) (eqb-true x y (both _ _ h).0) (word_eq xs ys (both _ _ h).1)

pub word_refl : (w : Word) → same_word w w ≡ true
word_refl [] = refl
word_refl (x ∷ xs) = and_both (eq-eqb x x refl) (word_refl xs)

mutual
  pub ty_eq : (a b : Ty) → same_ty a b ≡ true → a ≡ b
  ty_eq (tyvar a) (tyvar b) h = ap {B = Ty} tyvar (word_eq a b h)
  ty_eq (tyvar a) (tyapp d bs) h = clash h refl
  ty_eq (tyapp c as₁) (tyvar b) h = clash h refl
  ty_eq (tyapp c as₁) (tyapp d bs) h = ap₂ {C = Ty} tyapp (word_eq c d (both _ _ h).0) (tys_eq as₁ bs (both _ _ h).1)

  pub tys_eq : (as₁ bs : Tys) → same_tys as₁ bs ≡ true → as₁ ≡ bs
  tys_eq tnil tnil h = refl
  tys_eq tnil (tcons b bs) h = clash h refl
  tys_eq (tcons a as₁) tnil h = clash h refl
  tys_eq (tcons a as₁) (tcons b bs) h = ap₂ {C = Tys} tcons (ty_eq a b (both _ _ h).0) (tys_eq as₁ bs (both _ _ h).1)

mutual
  pub ty_refl : (a : Ty) → same_ty a a ≡ true
  ty_refl (tyvar a) = word_refl a
  ty_refl (tyapp c as₁) = and_both (word_refl c) (tys_refl as₁)

  pub tys_refl : (as₁ : Tys) → same_tys as₁ as₁ ≡ true
  tys_refl tnil = refl
  tys_refl (tcons a as₁) = and_both (ty_refl a) (tys_refl as₁)

pub tm_eq : (s t : Tm) → same_tm s t ≡ true → s ≡ t
tm_eq (fvar x a) (fvar y b) h = ap₂ {C = Tm} fvar (word_eq x y (both _ _ h).0) (ty_eq a b (both _ _ h).1)
tm_eq (fvar x a) (bvar m) h = clash h refl
tm_eq (fvar x a) (const d bs) h = clash h refl
tm_eq (fvar x a) (app g y) h = clash h refl
tm_eq (fvar x a) (lam b u) h = clash h refl
tm_eq (bvar n) (fvar y b) h = clash h refl
tm_eq (bvar n) (bvar m) h = ap {B = Tm} bvar (eqb-true n m h)
tm_eq (bvar n) (const d bs) h = clash h refl
tm_eq (bvar n) (app g y) h = clash h refl
tm_eq (bvar n) (lam b u) h = clash h refl
tm_eq (const c as₁) (fvar y b) h = clash h refl
tm_eq (const c as₁) (bvar m) h = clash h refl
tm_eq (const c as₁) (const d bs) h = ap₂ {C = Tm} const (word_eq c d (both _ _ h).0) (tys_eq as₁ bs (both _ _ h).1)
tm_eq (const c as₁) (app g y) h = clash h refl
tm_eq (const c as₁) (lam b u) h = clash h refl
tm_eq (app f x) (fvar y b) h = clash h refl
tm_eq (app f x) (bvar m) h = clash h refl
tm_eq (app f x) (const d bs) h = clash h refl
tm_eq (app f x) (app g y) h = ap₂ {C = Tm} app (tm_eq f g (both _ _ h).0) (tm_eq x y (both _ _ h).1)
tm_eq (app f x) (lam b u) h = clash h refl
tm_eq (lam a t) (fvar y b) h = clash h refl
tm_eq (lam a t) (bvar m) h = clash h refl
tm_eq (lam a t) (const d bs) h = clash h refl
tm_eq (lam a t) (app g y) h = clash h refl
tm_eq (lam a t) (lam b u) h = ap₂ {C = Tm} lam (ty_eq a b (both _ _ h).0) (tm_eq t u (both _ _ h).1)

pub tm_refl : (t : Tm) → same_tm t t ≡ true
tm_refl (fvar x a) = and_both (word_refl x) (ty_refl a)
tm_refl (bvar n) = eq-eqb n n refl
tm_refl (const c as₁) = and_both (word_refl c) (tys_refl as₁)
tm_refl (app f x) = and_both (tm_refl f) (tm_refl x)
tm_refl (lam a t) = and_both (ty_refl a) (tm_refl t)

-- variables are the same if name and type are
pub var_eq : (y : Word) (b : Ty) (x : Word) (a : Ty) → same_var y b x a ≡ true → (y ≡ x) × (b ≡ a)
var_eq y b x a h = (word_eq y x (both _ _ h).0, ty_eq b a (both _ _ h).1)

-- the tests for membership
pub in_words : (w : Word) (ws : List Word) → among w ws ≡ true → In w ws
in_words w ws h = let (v, i, e) = any_in (same_word w) ws h in rw (word_eq w v e) i

pub words_in : {w : Word} {ws : List Word} → In w ws → among w ws ≡ true
words_in {w} i = in_any (same_word w) i (word_refl w)

pub in_terms : (t : Tm) (hs : List Tm) → in_hyps t hs ≡ true → In t hs
in_terms t hs h = let (s, i, e) = any_in (same_tm t) hs h in rw (tm_eq t s e) i

pub terms_in : {t : Tm} {hs : List Tm} → In t hs → in_hyps t hs ≡ true
terms_in {t} i = in_any (same_tm t) i (tm_refl t)
