use Rattle.std.proofs.Common.{inr}
use Rattle.lent.proofs.Refused.{refused}
use Rattle.parser_types.proofs.Steps.{list-ended, argument_collected, bracket_collected, bracket_refull}
use Rattle.parser_types.proofs.collect.Goals as goal

pub returns-in_default-clause-moves : goal.returns-in_default-clause-moves
returns-in_default-clause-moves g c = λ ps qs x at. list-ended at c.in_default.ensures.cases.1

pub returns-in_err-push_all-in-Bracket-clause-moves : goal.returns-in_err-push_all-in-Bracket-clause-moves
returns-in_err-push_all-in-Bracket-clause-moves g c = λ ps qs x at.
    let p = rw (c.in-Some.mark-is, c.in-Some.n-is) at c.in-Some.ensures.cases in
    refused _ c.from_residual-in_err-push_all-in-Bracket.result c.from_residual-in_err-push_all-in-Bracket.ensures.0
    (inr (bracket_refull p.0 at (rw p.1 at c.in_err-push_all-in-Bracket.ensures.cases.1)))

pub returns-in_ok-ok_or-in-Argument-clause-moves : goal.returns-in_ok-ok_or-in-Argument-clause-moves
returns-in_ok-ok_or-in-Argument-clause-moves g c = λ ps qs x at.
    let p = rw (c.in-Some.mark-is, c.in-Some.n-is) at c.in-Some.ensures.cases in
    argument_collected p.0 at (rw c.in-Argument.is at c.from.ensures) (rw c.in_ok-ok_or-in-Argument.ensures.ok_part at c.cons_type.ensures)

pub returns-in_ok-push_all-in-Bracket-clause-moves : goal.returns-in_ok-push_all-in-Bracket-clause-moves
returns-in_ok-push_all-in-Bracket-clause-moves g c = λ ps qs x at.
    let p = rw (c.in-Some.mark-is, c.in-Some.n-is) at c.in-Some.ensures.cases in
    bracket_collected p.0 at (rw c.in-Bracket.is at c.from.ensures) (rw c.in_ok-a-in-Bracket.ensures.ok_part at c.type_named.ensures)
    c.in_ok-push_all-in-Bracket.ensures.cases.0
