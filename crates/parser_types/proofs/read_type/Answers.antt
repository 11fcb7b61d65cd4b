use Rattle.std.proofs.Common.{sym, ◌∙◌, inl}
use Rattle.reader.proofs.Streams.{flat_empty, flat-closes}
use Rattle.lent.proofs.Refused.{refused}
use Rattle.parser_types.proofs.Single.{given_token, word_read, word-short, unnamed, name-short, arguments, arguments_unread, arguments_short, bracket_read, bracket_short}
use Rattle.parser_types.proofs.read_type.Goals as goal

pub returns-in_err-word_type-in-Some-Word-clause-cases : goal.returns-in_err-word_type-in-Some-Word-clause-cases
returns-in_err-word_type-in-Some-Word-clause-cases g c = λ u qs e.
    let i = given_token c.in-Some-Word.ensures.steps c.in-Some-Word.field-0-is in
    refused _ c.from_residual.result c.from_residual.ensures.0 (inl (word-short u qs e i c.in_err-word_type-in-Some-Word.ensures))

pub returns-in_ok-word_type-in-Some-Word-clause-cases : goal.returns-in_ok-word_type-in-Some-Word-clause-cases
returns-in_ok-word_type-in-Some-Word-clause-cases g c = λ u qs e.
    let i = given_token c.in-Some-Word.ensures.steps c.in-Some-Word.field-0-is in
    word_read u qs e i c.in_ok-word_type-in-Some-Word.ensures

pub returns-in_err-name-in-Some-Open-clause-cases : goal.returns-in_err-name-in-Some-Open-clause-cases
returns-in_err-name-in-Some-Open-clause-cases g c = λ u qs e.
    let i = given_token c.in-Some-Open.ensures.steps c.in-Some-Open.field-0-is in
    refused _ c.from_residual-in_err-name-in-Some-Open.result c.from_residual-in_err-name-in-Some-Open.ensures.0
    (inl (name-short u qs e i c.in_err-name-in-Some-Open.ensures))

pub returns-in_default-clause-cases : goal.returns-in_default-clause-cases
returns-in_default-clause-cases g c = λ u qs e.
    let i = given_token c.in-Some-Open.ensures.steps c.in-Some-Open.field-0-is in
    unnamed u qs e i (rw c.in_default.is at c.in_ok-name-in-Some-Open.ensures)

pub returns-in_err-list-in-Some-Open-clause-cases : goal.returns-in_err-list-in-Some-Open-clause-cases
returns-in_err-list-in-Some-Open-clause-cases g c = λ u qs e.
    let i = given_token c.in-Some-Open.ensures.steps c.in-Some-Open.field-0-is in
    let b = rw c.in-Some.is at c.in_ok-name-in-Some-Open.ensures in
    let (us, k, l) = arguments u qs e i b in
    refused _ c.from_residual-in_err-list-in-Some-Open.result c.from_residual-in_err-list-in-Some-Open.ensures.0
    (arguments_short u qs e i b (c.in_err-list-in-Some-Open.ensures us qs l))

pub returns-in_default-2-clause-cases : goal.returns-in_default-2-clause-cases
returns-in_default-2-clause-cases g c = λ u qs e.
    let i = given_token c.in-Some-Open.ensures.steps c.in-Some-Open.field-0-is in
    let b = rw c.in-Some.is at c.in_ok-name-in-Some-Open.ensures in
    let (us, k, l) = arguments u qs e i b in
    arguments_unread u qs e i b (rw c.in_default-2.is at c.in_ok-list-in-Some-Open.ensures us qs l)

pub returns-in_err-ok_or-in-Some-Open-clause-cases : goal.returns-in_err-ok_or-in-Some-Open-clause-cases
returns-in_err-ok_or-in-Some-Open-clause-cases g c = λ u qs e.
    let i = given_token c.in-Some-Open.ensures.steps c.in-Some-Open.field-0-is in
    let b = rw c.in-Some.is at c.in_ok-name-in-Some-Open.ensures in
    let (us, k, l) = arguments u qs e i b in
    let r = rw c.in-Some-2.is at c.in_ok-list-in-Some-Open.ensures us qs l in
    refused _ c.from_residual-in_err-ok_or-in-Some-Open.result c.from_residual-in_err-ok_or-in-Some-Open.ensures.0
    (inl (bracket_short u qs e i b r (rw c.in_err-ok_or-in-Some-Open.ensures.ok_part at c.type_named.ensures)))

pub returns-in_ok-ok_or-in-Some-Open-clause-cases : goal.returns-in_ok-ok_or-in-Some-Open-clause-cases
returns-in_ok-ok_or-in-Some-Open-clause-cases g c = λ u qs e.
    let i = given_token c.in-Some-Open.ensures.steps c.in-Some-Open.field-0-is in
    let b = rw c.in-Some.is at c.in_ok-name-in-Some-Open.ensures in
    let (us, k, l) = arguments u qs e i b in
    let r = rw c.in-Some-2.is at c.in_ok-list-in-Some-Open.ensures us qs l in
    bracket_read u qs e i b r (rw c.in_ok-ok_or-in-Some-Open.ensures.ok_part at c.type_named.ensures)

pub returns-in-Some-Close-clause-cases : goal.returns-in-Some-Close-clause-cases
returns-in-Some-Close-clause-cases g c = λ u qs e.
    absurd (flat-closes u qs _ (sym e ∙ given_token c.in-Some-Close.ensures.steps c.in-Some-Close.field-0-is))

pub returns-in-None-clause-cases : goal.returns-in-None-clause-cases
returns-in-None-clause-cases g c = λ u qs e. absurd (flat_empty u qs (sym e ∙ c.in-None.ensures.steps.0))
