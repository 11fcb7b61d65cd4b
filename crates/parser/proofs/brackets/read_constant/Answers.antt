use Rattle.lent.proofs.Refused.{refused}
use Rattle.parser.proofs.Parts.{name-short, behind-name, types-short, types_unread, constant_read, constant_short}
use Rattle.parser.proofs.brackets.read_constant.Goals as goal

pub returns-in_err-name : goal.returns-in_err-name
returns-in_err-name g c = λ ts qs e.
    refused _ c.from_residual.result c.from_residual.ensures.0 (name-short ts qs e c.in_err-name.ensures)

pub returns-in_err-list : goal.returns-in_err-list
returns-in_err-list g c = λ ts qs e.
    let b = rw c.in-Some.is at c.in_ok-name.ensures in
    let (us, i, j) = behind-name ts qs e b in
    refused _ c.from_residual-in_err-list.result c.from_residual-in_err-list.ensures.0
    (types-short ts qs e b (c.in_err-list.ensures us qs j))

pub returns-in_default-2 : goal.returns-in_default-2
returns-in_default-2 g c = λ ts qs e.
    let b = rw c.in-Some.is at c.in_ok-name.ensures in
    let (us, i, j) = behind-name ts qs e b in
    types_unread ts qs e b (rw c.in_default-2.is at c.in_ok-list.ensures us qs j)

pub returns-in_err-ok_or : goal.returns-in_err-ok_or
returns-in_err-ok_or g c = λ ts qs e.
    let b = rw c.in-Some.is at c.in_ok-name.ensures in
    let (us, i, j) = behind-name ts qs e b in
    let r = rw c.in-Some-2.is at c.in_ok-list.ensures us qs j in
    refused _ c.from_residual-in_err-ok_or.result c.from_residual-in_err-ok_or.ensures.0
    (constant_short ts qs e b r (rw c.in_err-ok_or.ensures.ok_part at c.constant.ensures))

pub returns : goal.returns
returns g c = λ ts qs e.
    let b = rw c.in-Some.is at c.in_ok-name.ensures in
    let (us, i, j) = behind-name ts qs e b in
    let r = rw c.in-Some-2.is at c.in_ok-list.ensures us qs j in
    constant_read ts qs e b r (rw c.in_ok-ok_or.ensures.ok_part at c.constant.ensures)
