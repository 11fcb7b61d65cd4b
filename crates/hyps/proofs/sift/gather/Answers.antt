use Rattle.std.proofs.lemmas.Result.{err_from_is_err_and}
use Rattle.hyps.proofs.Leaving.{leaves_kept}
use Rattle.hyps.proofs.Gathering.{taken, next, no_room, ended}
use Rattle.hyps.proofs.sift.gather.Goals as goal

pub put_before-requires : goal.put_before-requires
put_before-requires g c =
    let (p, h) = c.requires.test in
    let (us, st) = c.requires.stand in
    let (vs, e) = c.requires.list in
    let k = c.loop-t.invariant p us vs h st e in
    let v = taken p (λ u. u) k c.in-Some.ensures.cases.0 in
    record {
      test = (p, leaves_kept k.grows.keeps h);
      term = (v.first, v.first_is);
      list = (k.list, k.list_is);
    }

pub returns-in_err-list : goal.returns-in_err-list
returns-in_err-list g c p us vs h st e =
    let q = c.in-Some.ensures.cases.0 in
    let k = c.loop-t.invariant p us vs h st e in
    let v = taken p (λ u. u) k q in
    let w = err_from_is_err_and c.from_residual.result c.from_residual.ensures.1 in
    rw w.1 (no_room p (λ u. u) k q
    (c.in_err-list.ensures p v.first k.list (leaves_kept k.grows.keeps h) v.first_is k.list_is))

pub loop-t-preserved : goal.loop-t-preserved
loop-t-preserved g c p us vs h st e =
    let q = c.in-Some.ensures.cases.0 in
    let k = c.loop-t.invariant p us vs h st e in
    let v = taken p (λ u. u) k q in
    next p (λ u. u) k q
    (c.in_ok-list.ensures p v.first k.list (leaves_kept k.grows.keeps h) v.first_is k.list_is)

pub returns : goal.returns
returns g c p us vs h st e = ended p (λ u. u) (c.loop-t.invariant p us vs h st e) c.in_default.ensures.cases.1
