use Rattle.lent.proofs.Asked.{asked}
use Rattle.typing.proofs.Forms.{third_full, built}
use Rattle.typing.proofs.form.function_type.Goals as goal

pub returns : goal.returns
returns g c a b hn ha hb =
    let m = rw c.in_ok-second.ensures.ok_part at c.cons_type.ensures in
    let k = rw c.in_ok-both.ensures.ok_part at c.cons_type-2.ensures in
    rw c.ok_or-3.ensures.value
    (asked c.type_named.result (λ e. third_full m k (rw e at c.type_named.ensures))
    (λ n e. built a b hn ha hb c.empty-empty.ensures.types m k (rw e at c.type_named.ensures)))
