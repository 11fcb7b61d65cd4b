-- Values of applications and equations in a well-formed theory, and when an equation holds.
use Rattle.std.proofs.Common.{◌≡◌, ℕ, ◌<◌, Bool, true, false, ◌&&◌, eqb, List, [], ◌∷◌, map, sym, refl, ap, ◌∙◌, eq-eqb, eqb-true}
use Rattle.hol.specs.Base.{all}
use Rattle.hol.specs.Syntax.{Ty, Tm, app, bool, fun, equal}
use Rattle.hol.specs.Theory.{Theory}
use Rattle.hol.specs.Models.{Model, Cards, Values, card_ty, digit, bit, value, consts, holds, Valuation}
use Rattle.hol.specs.Says.{Wf}
use Rattle.hol.proofs.Tools.{both, and_both, In, here, there}
use Rattle.hol.proofs.Typing.{Has, eq_has, equal-parts}
use Rattle.hol.proofs.Types.{Props, props_nil, props_cons}
use Rattle.hol.proofs.Codes.{code_eq_at}
use Rattle.hol.proofs.Denotes.{Denotes, den_app, beside_nil, denotes, value_is, fits-nil, denotes_lt}
use Rattle.hol.proofs.Constants.{consts_fit}

-- the value of a term in no λ
abbrev pub worth : Theory → Model → Cards → Values → Tm → ℕ
worth th m z w t = value th m (consts m th) z w [] [] t

bit-holds : (b : Bool) → eqb (bit b) 1 ≡ b
bit-holds true = refl
bit-holds false = refl

module _ {th : Theory} {m : Model} {z : Cards} {w : Values} (wf : Wf th) (v : Valuation m z w) where
  pub denotes_worth : {t : Tm} {a : Ty} → Has th [] t a → Denotes th m (consts m th) z w [] [] t a (worth th m z w t)
  denotes_worth t = denotes beside_nil t

  pub worth_is : {t : Tm} {a : Ty} {n : ℕ} → Denotes th m (consts m th) z w [] [] t a n → worth th m z w t ≡ n
  worth_is d = value_is d

  -- a term is worth an element of its type
  pub worth_lt : {t : Tm} {a : Ty} → Has th [] t a → worth th m z w t < card_ty m z a
  worth_lt t = denotes_lt v (consts_fit wf v.inhabited) fits-nil (denotes_worth t)

  pub app_worth : {f x : Tm} {a b : Ty} → Has th [] f (fun a b) → Has th [] x a
      → worth th m z w (app f x) ≡ digit (card_ty m z b) (worth th m z w f) (worth th m z w x)
  app_worth f x = worth_is (den_app (denotes_worth f) (denotes_worth x))

  equal_worth : {s t : Tm} {a b : Ty} → Has th [] (equal a s t) b
      → worth th m z w (equal a s t) ≡ bit (eqb (worth th m z w s) (worth th m z w t))
  equal_worth {s} {t} {a} e =
      let p = equal-parts e in
      let eq = denotes_worth (eq_has p.ok) in
      worth_is (den_app (den_app eq (denotes_worth p.left)) (denotes_worth p.right))
      ∙ code_eq_at (card_ty m z a) (worth th m z w s) (worth th m z w t) (worth_lt p.left) (worth_lt p.right)

  -- an equation holds exactly if its sides are worth the same
  equal_test : {s t : Tm} {a b : Ty} → Has th [] (equal a s t) b
      → holds th m z w (equal a s t) ≡ eqb (worth th m z w s) (worth th m z w t)
  equal_test h = ap (λ (n : ℕ). eqb n 1) (equal_worth h) ∙ bit-holds _

  pub equal-holds : {s t : Tm} {a b : Ty} → Has th [] (equal a s t) b → worth th m z w s ≡ worth th m z w t
      → holds th m z w (equal a s t) ≡ true
  equal-holds {s} {t} h e = equal_test h ∙ eq-eqb (worth th m z w s) (worth th m z w t) e

  pub holds-equal : {s t : Tm} {a b : Ty} → Has th [] (equal a s t) b → holds th m z w (equal a s t) ≡ true
      → worth th m z w s ≡ worth th m z w t
  holds-equal {s} {t} h e = eqb-true (worth th m z w s) (worth th m z w t) (sym (equal_test h) ∙ e)

-- ASSUMPTIONS that hold of terms of type bool
pub all-kept : {th : Theory} {f g : Tm → Bool} {hs : List Tm}
    → ((h : Tm) → In h hs → Has th [] h bool → f h ≡ true → g h ≡ true) → Props th hs → all f hs ≡ true → all g hs ≡ true
all-kept k props_nil e = refl
all-kept {f = f} k (props_cons {h = h} p hs) e =
    and_both (k h here p (both (f h) _ e).0) (all-kept (λ t i q. k t (there i) q) hs (both (f h) _ e).1)

pub all_map : (f : Tm → Bool) (s : Tm → Tm) (hs : List Tm) → all f (map s hs) ≡ all (λ h. f (s h)) hs
all_map f s [] = refl
all_map f s (h ∷ hs) = ap (λ (b : Bool). f (s h) && b) (all_map f s hs)
