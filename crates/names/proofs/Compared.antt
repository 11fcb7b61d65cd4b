-- Comparing numbers is comparing what they stand for.
use Rattle.std.proofs.Common.{◌≡◌, Bool, true, sym, ◌∙◌, inl, inr}
use mathlib.Core.Option.{Option, some}
use Rattle.hol.specs.Base.{Word, same_word}
use Rattle.hol.specs.Syntax.{Ty, same_ty}
use Rattle.hol.proofs.Tools.{decided, clash, some_same}
use Rattle.hol.proofs.Equality.{word_eq, word_refl, ty_eq, ty_refl}

module _ {A : Type 0} (test : A → A → Bool) (eq : (x y : A) → test x y ≡ true → x ≡ y) (same : (x : A) → test x x ≡ true) where
  compared : {r : Bool} {o p : Option A} {x y : A} → o ≡ some x → p ≡ some y → (r ≡ true → o ≡ p)
      → ((z : A) → o ≡ some z → p ≡ some z → r ≡ true) → r ≡ test x y
  compared {r} {o} {p} {x} {y} d e sound complete = elim (decided r) [
    | inl t ↦ let q : x ≡ y = some_same (sym d ∙ (sound t ∙ e)) in t ∙ sym (rw q (same y))
    | inr f ↦ elim (decided (test x y)) [
      | inl t ↦ clash (complete y (rw (eq x y t) at d) e) f
      | inr g ↦ f ∙ sym g
    ]
  ]

-- names, by what the store's same_name ensures
pub words_compared : {r : Bool} {o p : Option Word} {x y : Word} → o ≡ some x → p ≡ some y → (r ≡ true → o ≡ p)
    → ((z : Word) → o ≡ some z → p ≡ some z → r ≡ true) → r ≡ same_word x y
words_compared = compared same_word word_eq word_refl

-- types, by what its same_type ensures
pub types_compared : {r : Bool} {o p : Option Ty} {x y : Ty} → o ≡ some x → p ≡ some y → (r ≡ true → o ≡ p)
    → ((z : Ty) → o ≡ some z → p ≡ some z → r ≡ true) → r ≡ same_ty x y
types_compared = compared same_ty ty_eq ty_refl
