use Rattle.std.proofs.Common.{arith}
use Rattle.store.proofs.Growth.{grows_on}
use Rattle.theory.specs.Grounds.{grounded_kept}
use Rattle.kernel.proofs.Giving.{makes_on}
use Rattle.kernel.proofs.equality.applied.Goals as goal

pub returns : goal.returns
returns g c d p q h hd hp hq =
    let m₁ = rw c.in_ok-left.ensures.ok_part at c.apply.ensures in
    let m₂ = rw c.in_ok-right.ensures.ok_part at c.apply-2.ensures in
    let k₁ = m₁.grows.keeps in
    let k₂ = m₂.grows.keeps in
    let gr = grows_on m₁.grows m₂.grows in
    let k = gr.keeps in
    let l = k₂.term _ _ (m₁.stands _ _ (k₁.term _ _ hp.left) (k₁.term _ _ hq.left)) in
    let r = m₂.stands _ _ (k.term _ _ hp.right) (k.term _ _ hq.right) in
    makes_on _ _ _ c.equation.result gr (c.equation.ensures d _ _ (grounded_kept k h) (k.typ _ _ hd) l r) (omega arith)
    (λ x. omega (arith, x, gr.cost))
