use Rattle.std.proofs.Common.{[], reverse, ap, ◌∙◌, inl, arith}
use Rattle.std.proofs.lemmas.Result.{err_from_is_err_and}
use mathlib.Core.Logic.{⊎_map}
use Rattle.hol.specs.Kernel.{in_hyps}
use Rattle.hyps.proofs.Gathering.{lists_weaker, poured-sifted}
use Rattle.hyps.proofs.Nodes.{length-nodes, nodes-reverse}
use Rattle.hyps.proofs.Sifted.{sifted-dedup}
use Rattle.hyps.proofs.images.map_dedup.Goals as goal

pub returns-in_err-spread : goal.returns-in_err-spread
returns-in_err-spread g c f us d e =
    let w = err_from_is_err_and c.from_residual.result c.from_residual.ensures.1 in
    let room = ap (λ o. o.capacity) c.new-stack.ensures.empty in
    rw w.1 (inl (let k = c.in_err-spread.ensures.cases us e in let l = length-nodes us in omega arith))

pub returns : goal.returns
returns g c f us d e =
    let room = c.in_ok-spread.ensures.capacity ∙ ap (λ o. o.capacity) c.new-stack.ensures.empty in
    rw (← sifted-dedup f us, ← poured-sifted in_hyps f us [])
    (lists_weaker _ _ _ c.gather_images.result (⊎_map (λ x. let k = nodes-reverse us in omega arith) (λ x. x))
    (c.gather_images.ensures f (reverse us) [] d (c.in_ok-spread.ensures.cases us e) c.empty-empty.ensures.terms))
