-- Which terms are left out: what each kind of test comes to, and that a test stays as the store grows.
use Rattle.std.proofs.Common.{◌≡◌, ℕ, Bool, true, false, List, sym, ◌∙◌}
use mathlib.Core.Option.{some}
use Rattle.hol.specs.Syntax.{Tm}
use Rattle.hol.specs.Kernel.{in_hyps}
use Rattle.hol.proofs.Tools.{or_first}
use Rattle.store.specs.State.{Contents, Keeps}
use Rattle.hyps.specs.Leaving.{Leaves, leaves_in, leaves_same, leaves_either, leaves_repeated}
use Rattle.hyps.specs.declared.left_out.LeftOut.{LeftOut}
use Rattle.hyps.specs.declared.left_out.LeftOut.TheVariants.{In, Same, SameOrIn, Repeated}
use Rattle.hyps.proofs.Seeking.{same_decides}

pub leaves_kept : {c d : Contents} {l : LeftOut} {p : Tm → List Tm → Bool} → Keeps c d → Leaves c l p → Leaves d l p
leaves_kept k (leaves_in {l = l} {gs = gs} e) = leaves_in (k.terms l gs e)
leaves_kept k (leaves_same {n = n} {t = t} e) = leaves_same (k.term n t e)
leaves_kept k (leaves_either {n = n} {l = l} {t = t} {gs = gs} e f) = leaves_either (k.term n t e) (k.terms l gs f)
leaves_kept k leaves_repeated = leaves_repeated

-- `b` answers whether the number n stands for one of the list of l
abbrev pub Contained : Contents → ℕ → ℕ → Bool → Type 0
Contained c n l b = (u : Tm) (us : List Tm) → c.term n ≡ some u → c.terms l ≡ some us → b ≡ in_hyps u us

-- `b` answers whether m and n stand for the same term
pub record Compared (c : Contents) (m n : ℕ) (b : Bool) : Type 0 where
  pub sound : b ≡ true → c.term m ≡ c.term n
  pub complete : (x : Tm) → c.term m ≡ some x → c.term n ≡ some x → b ≡ true

pub list_of : {c : Contents} {l : ℕ} {p : Tm → List Tm → Bool} → Leaves c (In l) p → (gs : List Tm) × (c.terms l ≡ some gs)
list_of (leaves_in {gs = gs} e) = (gs, e)

pub either_list : {c : Contents} {m l : ℕ} {p : Tm → List Tm → Bool} → Leaves c (SameOrIn m l) p
    → (gs : List Tm) × (c.terms l ≡ some gs)
either_list (leaves_either {gs = gs} e f) = (gs, f)

module _ {c : Contents} (n : ℕ) (u : Tm) (vs : List Tm) (is : c.term n ≡ some u) where
  pub by_in : {p : Tm → List Tm → Bool} {l : ℕ} {b : Bool} → Leaves c (In l) p → Contained c n l b → b ≡ p u vs
  by_in (leaves_in {gs = gs} e) h = h u gs is e

  pub by_same : {p : Tm → List Tm → Bool} {m : ℕ} {b : Bool} → Leaves c (Same m) p → Compared c m n b → b ≡ p u vs
  by_same (leaves_same {t = t} e) h = same_decides t u e is h.sound h.complete

  -- the first of the two tests decides
  pub by_first : {p : Tm → List Tm → Bool} {m l : ℕ} {b : Bool} → Leaves c (SameOrIn m l) p → Compared c m n b → b ≡ true → b ≡ p u vs
  by_first (leaves_either {t = t} e f) h y = y ∙ sym (or_first _ (sym (same_decides t u e is h.sound h.complete) ∙ y))

  -- the second does
  pub by_second : {p : Tm → List Tm → Bool} {m l : ℕ} {a b : Bool} → Leaves c (SameOrIn m l) p → Compared c m n a → a ≡ false
      → Contained c n l b → b ≡ p u vs
  by_second (leaves_either {t = t} {gs = gs} e f) h y k =
      rw (← same_decides t u e is h.sound h.complete, y) (k u gs is f)

  pub by_repeated : {p : Tm → List Tm → Bool} {l : ℕ} {b : Bool} → Leaves c Repeated p → c.terms l ≡ some vs → Contained c n l b → b ≡ p u vs
  by_repeated leaves_repeated e h = h u vs is e
