use Rattle.std.proofs.Common.{refl, ◌∙◌}
use Rattle.std.proofs.lemmas.Result.{err_from_is_err_and}
use Rattle.store.proofs.Growth.{keeps_same}
use Rattle.hyps.proofs.Seeking.{fewer}
use Rattle.hyps.proofs.Spreading.{start, next, full, ended}
use Rattle.hyps.proofs.sift.spread.Goals as goal

pub loop-h-init : goal.loop-h-init
loop-h-init g c = (refl, λ us e. start c.requires.empty e)

pub terms_at-requires : goal.terms_at-requires
terms_at-requires g c =
    let (us, e) = c.requires.list in
    let k = c.loop-h.invariant.1 us e in
    (k.ahead, k.ahead_is)

pub returns-in_err-push : goal.returns-in_err-push
returns-in_err-push g c =
    let (same, at) = c.loop-h.invariant in
    let q = c.in_err-push.ensures.cases in
    record {
      capacity = rw (q.0, same) refl;
      cases = λ us e.
          let k = at us e in
          let w = err_from_is_err_and c.from_residual.result c.from_residual.ensures.1 in
          rw (w.1, ← same) (full k (c.in-Cons.ensures k.ahead k.ahead_is) q.1);
    }

pub loop-h-smaller : goal.loop-h-smaller
loop-h-smaller g c =
    let (us, e) = c.requires.list in
    let k = c.loop-h.invariant.1 us e in
    fewer c.loop-h.rest k.ahead_is (c.in-Cons.ensures k.ahead k.ahead_is) keeps_same

pub loop-h-preserved : goal.loop-h-preserved
loop-h-preserved g c =
    let (same, at) = c.loop-h.invariant in
    let q = c.in_ok-push.ensures.cases in
    (q.1 ∙ same, λ us e. let k = at us e in next k (c.in-Cons.ensures k.ahead k.ahead_is) q.0)

pub returns : goal.returns
returns g c =
    let (same, at) = c.loop-h.invariant in
    record { capacity = same; cases = λ us e. let k = at us e in ended k (c.in_default.ensures k.ahead k.ahead_is) }
