use Rattle.std.proofs.Common.{sym, ◌∙◌, arith, inr}
use Rattle.hol.specs.Kernel.{in_hyps}
use Rattle.store.proofs.Growth.{grows_on}
use Rattle.lent.proofs.Asked.{asked}
use Rattle.hyps.proofs.Putting.{let_go, put_on}
use Rattle.hyps.proofs.images.put_image.Goals as goal

pub contains-requires : goal.contains-requires
contains-requires g c =
    let (f, d) = c.requires.map in
    let (u, e) = c.requires.term in
    let (vs, h) = c.requires.list in
    let i = c.in_ok-image.ensures f u d e in
    record { term = (f u, i.stands); list = (vs, i.grows.keeps.terms c.args.so_far vs h) }

pub returns-then-contains : goal.returns-then-contains
returns-then-contains g c f u vs d e h =
    let k = c.contains.ensures in
    let m = c.mark-mark.ensures in
    let i = c.in_ok-image.ensures f u d e in
    let there = k.made (f u) vs i.stands (i.grows.keeps.terms c.args.so_far vs h) in
    let_go in_hyps (f u) vs (sym there ∙ c.if-contains.true) m.count m.contents m.left
    (grows_on i.grows k.stays.grows) c.release.ensures h

pub returns : goal.returns
returns g c f u vs d e h =
    let k = c.contains.ensures in
    let y = k.stays.grows.keeps in
    let i = c.in_ok-image.ensures f u d e in
    let l = i.grows.keeps.terms c.args.so_far vs h in
    let out = sym (k.made (f u) vs i.stands l) ∙ c.if-contains.false in
    rw c.ok_or.ensures.value
    (asked c.cons_term.result
    (λ n. inr (let q = (rw n at c.cons_term.ensures).short in let a = i.grows.cost in let b = k.stays.grows.cost in omega arith))
    (λ x o. put_on in_hyps (f u) vs out (omega arith) (grows_on i.grows k.stays.grows) (y.term _ (f u) i.stands) (y.terms _ vs l)
    (rw o at c.cons_term.ensures)))
