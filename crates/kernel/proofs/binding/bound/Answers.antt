use Rattle.std.proofs.Common.{inr, arith}
use Rattle.std.proofs.lemmas.Result.{err_from_is_err_and}
use Rattle.hol.specs.Syntax.{fun, abstract}
use Rattle.store.proofs.Growth.{grows_on}
use Rattle.theory.specs.Grounds.{grounded_kept}
use Rattle.workspace.proofs.Serving.{lacks_more, lacks_after}
use Rattle.kernel.proofs.Giving.{makes_on}
use Rattle.kernel.proofs.binding.bound.Goals as goal

pub lambda_over-requires : goal.lambda_over-requires
lambda_over-requires g c = record { name = c.requires.name; typ = c.requires.typ; term = (_, c.requires.sides.1.left) }

pub returns-in_err-left : goal.returns-in_err-left
returns-in_err-left g c w b l hx ha hs =
    let e = err_from_is_err_and c.from_residual.result c.from_residual.ensures.1 in
    rw e.1 (lacks_more (omega arith) (omega arith) (c.in_err-left.ensures w b l.left hx ha hs.left))

pub lambda_over-requires-2 : goal.lambda_over-requires-2
lambda_over-requires-2 g c =
    let h = c.requires in
    let k = (c.in_ok-left.ensures _ _ _ h.name.1 h.typ.1 h.sides.1.left).grows.keeps in
    record { name = (_, k.word _ _ h.name.1); typ = (_, k.typ _ _ h.typ.1); term = (_, k.term _ _ h.sides.1.right) }

pub returns-in_err-right : goal.returns-in_err-right
returns-in_err-right g c w b l hx ha hs =
    let m = c.in_ok-left.ensures w b l.left hx ha hs.left in
    let k = m.grows.keeps in
    let e = err_from_is_err_and c.from_residual-in_err-right.result c.from_residual-in_err-right.ensures.1 in
    rw e.1 (lacks_after _ _ _ _ _ _ _ _ (omega arith) (omega arith) (omega (arith, m.grows.cost))
    (c.in_err-right.ensures w b l.right (k.word _ _ hx) (k.typ _ _ ha) (k.term _ _ hs.right)))

pub returns-in_err-ty : goal.returns-in_err-ty
returns-in_err-ty g c w b l hx ha hs =
    let m₁ = c.in_ok-left.ensures w b l.left hx ha hs.left in
    let k₁ = m₁.grows.keeps in
    let m₂ = c.in_ok-right.ensures w b l.right (k₁.word _ _ hx) (k₁.typ _ _ ha) (k₁.term _ _ hs.right) in
    let gr = grows_on m₁.grows m₂.grows in
    let k = gr.keeps in
    let u = c.in_err-ty.ensures b l.ty (grounded_kept k c.requires.ground).arrow (k.typ _ _ ha) (k.typ _ _ hs.ty) in
    let e = err_from_is_err_and c.from_residual-in_err-ty.result c.from_residual-in_err-ty.ensures.1 in
    rw e.1 (inr (omega (arith, u, gr.cost)))

pub returns : goal.returns
returns g c w b l hx ha hs =
    let m₁ = c.in_ok-left.ensures w b l.left hx ha hs.left in
    let k₁ = m₁.grows.keeps in
    let m₂ = c.in_ok-right.ensures w b l.right (k₁.word _ _ hx) (k₁.typ _ _ ha) (k₁.term _ _ hs.right) in
    let gr = grows_on m₁.grows m₂.grows in
    let k = gr.keeps in
    let m₃ = c.in_ok-ty.ensures b l.ty (grounded_kept k c.requires.ground).arrow (k.typ _ _ ha) (k.typ _ _ hs.ty) in
    let all = grows_on gr m₃.grows in
    let k₂ = (grows_on m₂.grows m₃.grows).keeps in
    makes_on _ _ _ c.equation.result all
    (c.equation.ensures (fun b l.ty) (abstract w b l.left) (abstract w b l.right) (grounded_kept all.keeps c.requires.ground) m₃.stands
    (k₂.term _ _ m₁.stands) (m₃.grows.keeps.term _ _ m₂.stands))
    (omega arith) (λ x. inr (omega (arith, x, all.cost)))
