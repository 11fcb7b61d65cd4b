use Rattle.std.proofs.Common.{inr, arith}
use Rattle.std.proofs.lemmas.Result.{err_from_is_err_and}
use Rattle.lent.proofs.Asked.{asked}
use Rattle.store.proofs.Growth.{grows_on, grows-more}
use Rattle.workspace.proofs.Serving.{lacks_four, lacks_more}
use Rattle.workspace.proofs.terms.lambda_over.Goals as goal

pub returns-in_err-body : goal.returns-in_err-body
returns-in_err-body g c w b u h₁ h₂ h₃ =
    let e = err_from_is_err_and c.from_residual.result c.from_residual.ensures.1 in
    rw e.1 (lacks_more (omega arith) (omega arith) (lacks_four _ (c.in_err-body.ensures w b u h₁ h₂ h₃)))

pub returns : goal.returns
returns g c w b u h₁ h₂ h₃ =
    let m = c.in_ok-body.ensures w b u h₁ h₂ h₃ in
    rw c.ok_or.ensures.value
    (asked c.lambda.result
    (λ n. let f = rw n at c.lambda.ensures in inr (omega (arith, m.grows.cost, f.short)))
    (λ k o.
    let l = rw o at c.lambda.ensures in
    let gr = grows_on m.grows l.grows in
    record { grows = grows-more (omega arith) gr; stands = l.stands _ _ (gr.keeps.typ _ _ h₂) (l.grows.keeps.term _ _ m.stands) }))
