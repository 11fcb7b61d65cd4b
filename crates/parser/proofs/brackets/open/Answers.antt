use Rattle.std.proofs.Common.{refl}
use Rattle.parser.specs.declared.turn.Opened.TheVariants.{Whole, Under}
use Rattle.hol.specs.Text.{read_free, read_const}
use Rattle.parser.specs.declared.turn.Form.TheVariants.{Free, Constant, Lambda}
use Rattle.lent.proofs.Refused.{refused}
use Rattle.parser.proofs.Opens.{formless, behind_form, mapped, form_short, form_reading, application_next, lambda_reading}
use Rattle.parser.proofs.brackets.open.Goals as goal

pub returns-in_err-read_free-in-Some-Free : goal.returns-in_err-read_free-in-Some-Free
returns-in_err-read_free-in-Some-Free g c = λ ts qs e.
    let f = rw c.in-Some-Free.field-0-is at c.in-Some-Free.ensures in
    let (us, i, j) = behind_form ts qs e Free f in
    refused _ c.from_residual.result c.from_residual.ensures.0
    (form_short ts qs e Free f (c.in_err-read_free-in-Some-Free.ensures us qs j))

pub returns-in_ok-read_free-in-Some-Free : goal.returns-in_ok-read_free-in-Some-Free
returns-in_ok-read_free-in-Some-Free g c = λ ts qs e.
    let f = rw c.in-Some-Free.field-0-is at c.in-Some-Free.ensures in
    let (us, i, j) = behind_form ts qs e Free f in
    let o = c.in_ok-read_free-in-Some-Free.field-0 in
    rw (mapped o Whole c.map.result c.map.ensures.cases)
    (form_reading ts qs e Free f read_free (λ vs n xs. refl) _ _ _ o (c.in_ok-read_free-in-Some-Free.ensures us qs j))

pub returns-in_err-read_constant-in-Some-Constant : goal.returns-in_err-read_constant-in-Some-Constant
returns-in_err-read_constant-in-Some-Constant g c = λ ts qs e.
    let f = rw c.in-Some-Constant.field-0-is at c.in-Some-Constant.ensures in
    let (us, i, j) = behind_form ts qs e Constant f in
    refused _ c.from_residual-in_err-read_constant-in-Some-Constant.result c.from_residual-in_err-read_constant-in-Some-Constant.ensures.0
    (form_short ts qs e Constant f (c.in_err-read_constant-in-Some-Constant.ensures us qs j))

pub returns-in_ok-read_constant-in-Some-Constant : goal.returns-in_ok-read_constant-in-Some-Constant
returns-in_ok-read_constant-in-Some-Constant g c = λ ts qs e.
    let f = rw c.in-Some-Constant.field-0-is at c.in-Some-Constant.ensures in
    let (us, i, j) = behind_form ts qs e Constant f in
    let o = c.in_ok-read_constant-in-Some-Constant.field-0 in
    rw (mapped o Whole c.map-in-Some-Constant.result c.map-in-Some-Constant.ensures.cases)
    (form_reading ts qs e Constant f read_const (λ vs n xs. refl) _ _ _ o (c.in_ok-read_constant-in-Some-Constant.ensures us qs j))

pub returns-in-Some-Application : goal.returns-in-Some-Application
returns-in-Some-Application g c = λ ts qs e. application_next ts qs e (rw c.in-Some-Application.field-0-is at c.in-Some-Application.ensures)

pub returns-in_err-read_binder-in-Some-Lambda : goal.returns-in_err-read_binder-in-Some-Lambda
returns-in_err-read_binder-in-Some-Lambda g c = λ ts qs e.
    let f = rw c.in-Some-Lambda.field-0-is at c.in-Some-Lambda.ensures in
    let (us, i, j) = behind_form ts qs e Lambda f in
    refused _ c.from_residual-in_err-read_binder-in-Some-Lambda.result c.from_residual-in_err-read_binder-in-Some-Lambda.ensures.0
    (form_short ts qs e Lambda f (c.in_err-read_binder-in-Some-Lambda.ensures us qs j))

pub returns-in_ok-read_binder-in-Some-Lambda : goal.returns-in_ok-read_binder-in-Some-Lambda
returns-in_ok-read_binder-in-Some-Lambda g c = λ ts qs e.
    let f = rw c.in-Some-Lambda.field-0-is at c.in-Some-Lambda.ensures in
    let (us, i, j) = behind_form ts qs e Lambda f in
    let o = c.in_ok-read_binder-in-Some-Lambda.field-0 in
    rw (mapped o Under c.map-in-Some-Lambda.result c.map-in-Some-Lambda.ensures.cases)
    (lambda_reading ts qs e _ _ _ o f (c.in_ok-read_binder-in-Some-Lambda.ensures us qs j))

pub returns-in-None : goal.returns-in-None
returns-in-None g c = λ ts qs e. formless ts qs e c.in-None.ensures
