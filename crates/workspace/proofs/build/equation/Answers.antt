use Rattle.std.proofs.Common.{arith}
use Rattle.lent.proofs.Asked.{asked}
use Rattle.workspace.proofs.Building.{equal-made}
use Rattle.workspace.proofs.build.equation.Goals as goal

pub returns : goal.returns
returns g c b u v gr ha hs ht =
    let m₁ = rw c.in_ok-list.ensures.ok_part at c.cons_type.ensures in
    let m₂ = rw c.in_ok-sign.ensures.ok_part at c.constant.ensures in
    let m₃ = rw c.in_ok-left.ensures.ok_part at c.apply.ensures in
    rw c.ok_or-4.ensures.value
    (asked c.apply-2.result
    (λ n. let f = rw n at c.apply-2.ensures in omega (arith, f.short, m₁.grows.cost, m₂.grows.cost, m₃.grows.cost))
    (λ k o. equal-made m₁ m₂ m₃ (rw o at c.apply-2.ensures) c.empty-nothing.ensures.types gr ha hs ht))
