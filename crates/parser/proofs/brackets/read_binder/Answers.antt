use Rattle.lent.proofs.Refused.{refused}
use Rattle.parser_types.proofs.Refused.{refused_absent, some_absent}
use Rattle.parser.proofs.Parts.{name-short, type_short, type_unread, type_read}
use Rattle.parser.proofs.brackets.read_binder.Goals as goal

pub returns-in_err-name : goal.returns-in_err-name
returns-in_err-name g c = λ ts qs e.
    refused _ c.from_residual.result c.from_residual.ensures.0 (name-short ts qs e c.in_err-name.ensures)

pub returns-in_err-ty : goal.returns-in_err-ty
returns-in_err-ty g c = λ ts qs e.
    let b = rw c.in-Some.is at c.in_ok-name.ensures in
    let r = c.in_err-ty.ensures in
    refused _ c.from_residual-in_err-ty.result c.from_residual-in_err-ty.ensures.0
    (type_short ts qs e b (λ v ss i. r.cases v ss i) (λ ss i. refused_absent (r.none ss i)))

pub returns-in_default-2 : goal.returns-in_default-2
returns-in_default-2 g c = λ ts qs e.
    let b = rw c.in-Some.is at c.in_ok-name.ensures in
    let r = rw c.in_default-2.is at c.in_ok-ty.ensures in
    type_unread ts qs e b (λ v ss i. r.cases v ss i) (λ ss i. (r.none ss i).1)

pub returns : goal.returns
returns g c = λ ts qs e.
    let b = rw c.in-Some.is at c.in_ok-name.ensures in
    let r = rw c.in-Some-2.is at c.in_ok-ty.ensures in
    type_read ts qs e b (λ v ss i. r.cases v ss i) (λ ss i. some_absent (r.none ss i))
