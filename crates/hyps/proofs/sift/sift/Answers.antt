use Rattle.std.proofs.Common.{reverse, ap, inl, inr, arith}
use Rattle.std.proofs.lemmas.Result.{err_from_is_err_and}
use Rattle.hyps.proofs.Gathering.{lists_weaker, poured-sifted}
use Rattle.hyps.proofs.Nodes.{length-nodes}
use Rattle.hyps.proofs.sift.sift.Goals as goal

pub returns-in_err-spread : goal.returns-in_err-spread
returns-in_err-spread g c p us vs h e d =
    let w = err_from_is_err_and c.from_residual.result c.from_residual.ensures.1 in
    let room = ap (λ o. o.capacity) c.new-stack.ensures.empty in
    rw w.1 (inl (let k = c.in_err-spread.ensures.cases us e in let l = length-nodes us in omega arith))

pub returns : goal.returns
returns g c p us vs h e d =
    rw (← poured-sifted p (λ u. u) us vs)
    (lists_weaker _ _ _ c.gather.result inr (c.gather.ensures p (reverse us) vs h (c.in_ok-spread.ensures.cases us e) d))
