-- Terms built from parts, node by node.
use Rattle.std.proofs.Common.{◌≡◌, ℕ}
use mathlib.Core.Option.{some}
use Rattle.hol.specs.Syntax.{Ty, Tm, equal, tnil}
use Rattle.store.specs.State.{State}
use Rattle.store.specs.Builds.{Made, IsTypes, IsConst, IsApp}
use Rattle.store.proofs.Growth.{grows_on}
use Rattle.theory.specs.Grounds.{Grounded}
use Rattle.theory.specs.declared.ground.Ground.{Ground}

pub equal-made : {s₀ s₁ s₂ s₃ s₄ : State} {g : Ground} {a x y n k₁ k₂ k₃ k₄ : ℕ} {b : Ty} {u v : Tm}
    → Made 1 s₀ s₁ (IsTypes a n) k₁ → Made 1 s₁ s₂ (IsConst g.equality k₁) k₂ → Made 1 s₂ s₃ (IsApp k₂ x) k₃ → Made 1 s₃ s₄ (IsApp k₃ y) k₄
    → s₀.contents.types n ≡ some tnil → Grounded s₀.contents g → s₀.contents.typ a ≡ some b → s₀.contents.term x ≡ some u → s₀.contents.term y ≡ some v
    → Made 4 s₀ s₄ (λ c m. c.term m ≡ some (equal b u v)) k₄
equal-made m₁ m₂ m₃ m₄ hn gr ha hx hy =
    let g₁ = m₁.grows in
    let g₂ = grows_on g₁ m₂.grows in
    let g₃ = grows_on g₂ m₃.grows in
    let g₄ = grows_on g₃ m₄.grows in
    let e₁ = m₁.stands _ _ (g₁.keeps.typ _ _ ha) (g₁.keeps.types _ _ hn) in
    let e₂ = m₂.stands _ _ (g₂.keeps.word _ _ gr.equality) (m₂.grows.keeps.types _ _ e₁) in
    let e₃ = m₃.stands _ _ (m₃.grows.keeps.term _ _ e₂) (g₃.keeps.term _ _ hx) in
    let e₄ = m₄.stands _ _ (m₄.grows.keeps.term _ _ e₃) (g₄.keeps.term _ _ hy) in
    record { grows = g₄; stands = e₄ }
