-- One call of a store after another: what was built stands, and what was spent adds up.
use Rattle.std.proofs.Common.{◌≡◌, ℕ, Bool, true, Some, None, codes, Option, arith}
use mathlib.Core.Option.{some}
use Rattle.store.specs.State.{State, Grows, Stays}
use Rattle.store.specs.Builds.{Made, Full, Builds, IsLetter, IsWord, IsFree, IsApp}
use Rattle.store.proofs.Growth.{grows_on, grows-more, keeps_on}
use Rattle.trial.specs.Trials.{self_applied, Applied, Short, AppliedSays}

module _ {s₀ s₁ s₂ s₃ : State} where
  -- no room for the variable
  pub short_free : Grows 3 s₀ s₁ → Grows 1 s₁ s₂ → Full 1 s₂ s₃ → Short 6 s₀ s₃
  short_free g h f =
      let k = grows_on g h in
      let l = k.cost in
      let n = f.short in
      record { grows = rw f.same (grows-more (omega arith) k); short = omega arith }

  -- the application, or no room for it
  pub applied : (s₄ : State) (a x v : ℕ) (r : Option ℕ) → Made 3 s₀ s₁ (IsLetter (codes "'a")) a → Made 1 s₁ s₂ (IsWord (codes "x")) x
      → Made 1 s₂ s₃ (IsFree x a) v → Builds 1 s₃ s₄ (IsApp v v) r → AppliedSays s₀ s₄ r
  applied s₄ a x v None p q m f =
      let k = grows_on (grows_on p.grows q.grows) m.grows in
      let l = k.cost in
      let n = f.short in
      record { grows = rw f.same (grows-more (omega arith) k); short = omega arith }
  applied s₄ a x v (Some n) p q m f =
      let k = grows_on (grows_on p.grows q.grows) m.grows in
      let h = keeps_on q.grows.keeps m.grows.keeps in
      let var = f.grows.keeps.term v _ (m.stands _ _ (m.grows.keeps.word x _ q.stands) (h.typ a _ p.stands)) in
      record { grows = grows_on k f.grows; stands = f.stands _ _ var var }

  -- both, compared
  pub compared : {m n : ℕ} (b : Bool) → Applied s₀ s₁ m → Applied s₁ s₂ n → Stays s₂ s₃
      → ((u : _) → s₂.contents.term m ≡ some u → s₂.contents.term n ≡ some u → b ≡ true) → Grows 12 s₀ s₃ × (b ≡ true)
  compared b p q s c = (grows_on (grows_on p.grows q.grows) s.grows, c self_applied (q.grows.keeps.term _ _ p.stands) q.stands)

-- no room for the second
pub short-second : {s₀ s₁ s₂ : State} {n : ℕ} → Applied s₀ s₁ n → Short 6 s₁ s₂ → Short 12 s₀ s₂
short-second p q =
    let k = grows_on p.grows q.grows in
    let l = p.grows.cost in
    let n = q.short in
    record { grows = k; short = omega arith }
