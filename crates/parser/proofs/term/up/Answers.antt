use Rattle.lent.specs.Piles.{pile_of}
use Rattle.lent.proofs.Refused.{refused}
use Rattle.parser.specs.Machine.{moved, no_more}
use Rattle.parser.proofs.Ups.{name_taken, all_done, function_done, function_refull, argument_unclosed, body_unclosed, argument_done, body-done}
use Rattle.parser.proofs.term.up.Goals as goal

pub returns-in_default-clause-moves : goal.returns-in_default-clause-moves
returns-in_default-clause-moves g c = λ qs x at. moved (all_done at c.in_default.ensures.cases.1)

pub returns-in_err-push_all-in-Function-clause-moves : goal.returns-in_err-push_all-in-Function-clause-moves
returns-in_err-push_all-in-Function-clause-moves g c = λ qs x at.
    let p = rw (c.in-Some.wait-is, c.in-Some.kept-is) at c.in-Some.ensures.cases in
    refused _ c.from_residual.result c.from_residual.ensures.0
    (function_refull p.0 (g.S.Store.state c.args.store.now) at (rw p.1 at c.in_err-push_all-in-Function.ensures.cases.1))

pub returns-in_ok-push_all-in-Function-clause-moves : goal.returns-in_ok-push_all-in-Function-clause-moves
returns-in_ok-push_all-in-Function-clause-moves g c = λ qs x at.
    let p = rw (c.in-Some.wait-is, c.in-Some.kept-is) at c.in-Some.ensures.cases in
    moved (function_done p.0 at (rw c.in-Function.is at c.from.ensures) c.in_ok-push_all-in-Function.ensures.cases.0)

pub returns-then-not-closes_next-clause-moves : goal.returns-then-not-closes_next-clause-moves
returns-then-not-closes_next-clause-moves g c = λ qs x at.
    let p = rw (c.in-Some.wait-is, c.in-Some.kept-is) at c.in-Some.ensures.cases in
    no_more (argument_unclosed p.0 at (rw c.in-Argument.is at c.from.ensures) c.if-not-closes_next.ensures)

pub returns-then-not-closes_next-2-clause-moves : goal.returns-then-not-closes_next-2-clause-moves
returns-then-not-closes_next-2-clause-moves g c = λ qs x at.
    let p = rw (c.in-Some.wait-is, c.in-Some.kept-is) at c.in-Some.ensures.cases in
    no_more (body_unclosed p.0 at (rw c.in-Body.is at c.from.ensures) c.if-not-closes_next-2.ensures)

pub returns-in_ok-ok_or-in-Argument-clause-moves : goal.returns-in_ok-ok_or-in-Argument-clause-moves
returns-in_ok-ok_or-in-Argument-clause-moves g c = λ qs x at.
    let p = rw (c.in-Some.wait-is, c.in-Some.kept-is) at c.in-Some.ensures.cases in
    moved (argument_done p.0 c.if-not-closes_next.ensures at (rw c.in-Argument.is at c.from.ensures) (rw c.in_ok-ok_or-in-Argument.ensures.ok_part at c.apply.ensures))

pub returns-in_ok-ok_or-in-Body-clause-moves : goal.returns-in_ok-ok_or-in-Body-clause-moves
returns-in_ok-ok_or-in-Body-clause-moves g c = λ qs x at.
    let p = rw (c.in-Some.wait-is, c.in-Some.kept-is) at c.in-Some.ensures.cases in
    moved (body-done p.0 c.if-not-closes_next-2.ensures at (rw c.in-Body.is at c.from.ensures)
    (λ k zs e. name_taken (pile_of c.args.names.now) (pile_of c.pop.new.self) c.pop.result c.pop.ensures.cases e) (rw c.in_ok-ok_or-in-Body.ensures.ok_part at c.lambda.ensures))
