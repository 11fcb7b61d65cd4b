-- Which terms are left out where a list is put before another.
use Rattle.std.specs.Prelude.{◌≡◌, ℕ, Bool, ◌||◌, List}
use Rattle.std.proofs.Math.Option.{some}
use Rattle.hol.specs.Syntax.{Tm, same_tm}
use Rattle.hol.specs.Kernel.{in_hyps}
use Rattle.store.specs.State.{Contents}
use Rattle.hyps.specs.declared.left_out.LeftOut.{LeftOut}
use Rattle.hyps.specs.declared.left_out.LeftOut.TheVariants.{In, Same, SameOrIn, Repeated}

-- the test on a term and the list that it would stand before: true where the term is left out
pub data Leaves (c : Contents) : LeftOut → (Tm → List Tm → Bool) → Type 0 where
  leaves_in : {l : ℕ} {gs : List Tm} → c.terms l ≡ some gs → Leaves c (In l) (λ u vs. in_hyps u gs)
  leaves_same : {n : ℕ} {t : Tm} → c.term n ≡ some t → Leaves c (Same n) (λ u vs. same_tm t u)
  leaves_either : {n l : ℕ} {t : Tm} {gs : List Tm} → c.term n ≡ some t → c.terms l ≡ some gs
      → Leaves c (SameOrIn n l) (λ u vs. same_tm t u || in_hyps u gs)
  leaves_repeated : Leaves c Repeated (λ u vs. in_hyps u vs)
