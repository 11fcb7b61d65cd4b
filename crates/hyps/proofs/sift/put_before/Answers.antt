use Rattle.std.proofs.Common.{sym, ◌∙◌, arith}
use Rattle.lent.proofs.Asked.{asked}
use Rattle.hyps.proofs.Putting.{left_out, put_on, no_place}
use Rattle.hyps.proofs.sift.put_before.Goals as goal

pub returns-then-leaves_out : goal.returns-then-leaves_out
returns-then-leaves_out g c p u vs h is list =
    let e = c.leaves_out.ensures in
    left_out p u vs (sym (e.made p u vs h is list) ∙ c.if-leaves_out.true) e.stays list

pub returns : goal.returns
returns g c p u vs h is list =
    let e = c.leaves_out.ensures in
    let k = e.stays.grows.keeps in
    let out = sym (e.made p u vs h is list) ∙ c.if-leaves_out.false in
    rw c.ok_or.ensures.value
    (asked c.cons_term.result
    (λ n. no_place p u vs out (omega arith) e.stays.grows (rw n at c.cons_term.ensures).short)
    (λ l o. put_on p u vs out (omega arith) e.stays.grows (k.term _ u is) (k.terms _ vs list) (rw o at c.cons_term.ensures)))
