use Rattle.std.proofs.Common.{inl, inr}
use Rattle.parser_types.proofs.Steps.{no_token, word_read, word-short, word_full, bracket_opened, bracket_short, bracket_full, bracket_unnamed, bracket_closed}
use Rattle.lent.proofs.Refused.{refused}
use Rattle.parser_types.proofs.Single.{given_token}
use Rattle.parser_types.proofs.advance.Goals as goal

pub returns-in_err-a-in-Some-Word-clause-moves : goal.returns-in_err-a-in-Some-Word-clause-moves
returns-in_err-a-in-Some-Word-clause-moves g c = λ qs x at.
    let i = given_token c.in-Some-Word.ensures.steps c.in-Some-Word.field-0-is in
    refused _ c.from_residual.result c.from_residual.ensures.0 (inl (word-short at i c.in_err-a-in-Some-Word.ensures))

pub returns-in_err-push_all-in-Some-Word-clause-moves : goal.returns-in_err-push_all-in-Some-Word-clause-moves
returns-in_err-push_all-in-Some-Word-clause-moves g c = λ qs x at.
    let i = given_token c.in-Some-Word.ensures.steps c.in-Some-Word.field-0-is in
    refused _ c.from_residual-in_err-push_all-in-Some-Word.result c.from_residual-in_err-push_all-in-Some-Word.ensures.0
    (inr (word_full at i c.in_err-push_all-in-Some-Word.ensures.cases.1))

pub returns-in_err-name-in-Some-Open-clause-moves : goal.returns-in_err-name-in-Some-Open-clause-moves
returns-in_err-name-in-Some-Open-clause-moves g c = λ qs x at.
    let i = given_token c.in-Some-Open.ensures.steps c.in-Some-Open.field-0-is in
    refused _ c.from_residual-in_err-name-in-Some-Open.result c.from_residual-in_err-name-in-Some-Open.ensures.0
    (inl (bracket_short at i c.in_err-name-in-Some-Open.ensures))

pub returns-in_default-clause-moves : goal.returns-in_default-clause-moves
returns-in_default-clause-moves g c = λ qs x at.
    let i = given_token c.in-Some-Open.ensures.steps c.in-Some-Open.field-0-is in
    bracket_unnamed at i (rw c.in_default.is at c.in_ok-name-in-Some-Open.ensures)

pub returns-in_err-push_all-in-Some-Open-clause-moves : goal.returns-in_err-push_all-in-Some-Open-clause-moves
returns-in_err-push_all-in-Some-Open-clause-moves g c = λ qs x at.
    let i = given_token c.in-Some-Open.ensures.steps c.in-Some-Open.field-0-is in
    let b = rw c.in-Some.is at c.in_ok-name-in-Some-Open.ensures in
    refused _ c.from_residual-in_err-push_all-in-Some-Open.result c.from_residual-in_err-push_all-in-Some-Open.ensures.0
    (inr (bracket_full at i b.ahead c.in_err-push_all-in-Some-Open.ensures.cases.1))

pub returns-in_ok-push_all-in-Some-Word-clause-moves : goal.returns-in_ok-push_all-in-Some-Word-clause-moves
returns-in_ok-push_all-in-Some-Word-clause-moves g c = λ qs x at.
    let i = given_token c.in-Some-Word.ensures.steps c.in-Some-Word.field-0-is in
    word_read at i c.in_ok-a-in-Some-Word.ensures c.in_ok-push_all-in-Some-Word.ensures.cases.0

pub returns-in_ok-push_all-in-Some-Open-clause-moves : goal.returns-in_ok-push_all-in-Some-Open-clause-moves
returns-in_ok-push_all-in-Some-Open-clause-moves g c = λ qs x at.
    let i = given_token c.in-Some-Open.ensures.steps c.in-Some-Open.field-0-is in
    bracket_opened at i (rw c.in-Some.is at c.in_ok-name-in-Some-Open.ensures) c.in_ok-push_all-in-Some-Open.ensures.cases.0

pub returns-in-Some-Close-clause-moves : goal.returns-in-Some-Close-clause-moves
returns-in-Some-Close-clause-moves g c = λ qs x at.
    bracket_closed at (given_token c.in-Some-Close.ensures.steps c.in-Some-Close.field-0-is) c.empty.ensures.types

pub returns-in-None-clause-moves : goal.returns-in-None-clause-moves
returns-in-None-clause-moves g c = λ qs x at. absurd (no_token at c.in-None.ensures.steps.0)
