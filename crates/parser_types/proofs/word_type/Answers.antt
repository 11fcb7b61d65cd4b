use Rattle.std.proofs.Common.{sym, arith}
use Rattle.parser_types.proofs.Refused.{built}
use Rattle.parser_types.proofs.Single.{plain_type}
use Rattle.parser_types.proofs.word_type.Goals as goal

pub returns : goal.returns
returns g c =
    let m = rw c.in_ok-name.ensures.ok_part at c.name.ensures in
    built c.type_named.result c.ok_or-3.ensures.value c.type_named.ensures
    (λ f. let x = m.grows.cost in let y = f.short in omega arith)
    (λ a d. plain_type (sym c.if-is_type_variable.ensures) m c.empty.ensures.types d)
