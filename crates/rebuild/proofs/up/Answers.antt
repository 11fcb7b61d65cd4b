use Rattle.lent.specs.Piles.{pile_of}
use Rattle.lent.proofs.Refused.{an_err}
use Rattle.rebuild.proofs.up.Goals as goal
use Rattle.rebuild.proofs.Steps.{ended, function_done, function_stuck, argument_done, argument_full, body-done, body_full}

pub returns-in_default-clause-moves : goal.returns-in_default-clause-moves
returns-in_default-clause-moves g c F d x at =
    let s = g.S.Store.state c.args.store.now in
    ended F d s s (pile_of c.args.stack.now).held c.args.n c.args.depth (pile_of c.pop_pair.new.self).held at c.in_default.ensures.cases.1

pub returns-in_ok-push_all-in-Function-clause-moves : goal.returns-in_ok-push_all-in-Function-clause-moves
returns-in_ok-push_all-in-Function-clause-moves g c F d x at =
    let s = g.S.Store.state c.args.store.now in
    function_done F d s s (pile_of c.args.stack.now).held c.args.n c.args.depth c.in-Some.k c.in-Some.kept (pile_of c.pop_pair.new.self).held
    c.in-Some.ensures.cases.0 (pile_of c.push_all.new.self).held at c.in-Function.ensures c.in_ok-push_all-in-Function.ensures.cases.0

pub returns-in_err-push_all-in-Function-clause-moves : goal.returns-in_err-push_all-in-Function-clause-moves
returns-in_err-push_all-in-Function-clause-moves g c F d x at =
    let s = g.S.Store.state c.args.store.now in
    rw (an_err c.from_residual.result c.from_residual.ensures.0).1
    (function_stuck F d s s (pile_of c.args.stack.now).held c.args.n c.args.depth c.in-Some.k c.in-Some.kept (pile_of c.pop_pair.new.self).held
    c.in-Some.ensures.cases.0 (pile_of c.args.stack.now).capacity at (rw c.in-Some.ensures.cases.1 at c.in_err-push_all-in-Function.ensures.cases.1))

pub returns-in_ok-ok_or-in-Argument-clause-moves : goal.returns-in_ok-ok_or-in-Argument-clause-moves
returns-in_ok-ok_or-in-Argument-clause-moves g c F d x at =
    let st = g.S.Store.state in
    argument_done F d (st c.args.store.now) (st c.apply.new.self) (pile_of c.args.stack.now).held c.args.n c.args.depth c.in-Some.k c.in-Some.kept
    (pile_of c.pop_pair.new.self).held c.in-Some.ensures.cases.0 c.in_ok-ok_or-in-Argument.field-0 at c.in-Argument.ensures
    (rw c.in_ok-ok_or-in-Argument.ensures.ok_part at c.apply.ensures)

pub returns-in_err-ok_or-in-Argument-clause-moves : goal.returns-in_err-ok_or-in-Argument-clause-moves
returns-in_err-ok_or-in-Argument-clause-moves g c F d x at =
    let st = g.S.Store.state in
    rw (an_err c.from_residual-in_err-ok_or-in-Argument.result c.from_residual-in_err-ok_or-in-Argument.ensures.0).1
    (argument_full F d (st c.args.store.now) (st c.apply.new.self) (pile_of c.args.stack.now).held c.args.n c.args.depth c.in-Some.k
    c.in-Some.kept (pile_of c.pop_pair.new.self).held c.in-Some.ensures.cases.0 (pile_of c.args.stack.now).capacity at c.in-Argument.ensures
    (rw c.in_err-ok_or-in-Argument.ensures.ok_part at c.apply.ensures))

pub returns-in_ok-ok_or-in-Body-clause-moves : goal.returns-in_ok-ok_or-in-Body-clause-moves
returns-in_ok-ok_or-in-Body-clause-moves g c F d x at =
    let st = g.S.Store.state in
    body-done F d (st c.args.store.now) (st c.lambda.new.self) (pile_of c.args.stack.now).held c.args.n c.args.depth c.in-Some.k c.in-Some.kept
    (pile_of c.pop_pair.new.self).held c.in-Some.ensures.cases.0 c.in_ok-ok_or-in-Body.field-0 c.saturating_sub.result at c.in-Body.ensures
    c.saturating_sub.ensures (rw c.in_ok-ok_or-in-Body.ensures.ok_part at c.lambda.ensures)

pub returns-in_err-ok_or-in-Body-clause-moves : goal.returns-in_err-ok_or-in-Body-clause-moves
returns-in_err-ok_or-in-Body-clause-moves g c F d x at =
    let st = g.S.Store.state in
    rw (an_err c.from_residual-in_err-ok_or-in-Body.result c.from_residual-in_err-ok_or-in-Body.ensures.0).1
    (body_full F d (st c.args.store.now) (st c.lambda.new.self) (pile_of c.args.stack.now).held c.args.n c.args.depth c.in-Some.k
    c.in-Some.kept (pile_of c.pop_pair.new.self).held c.in-Some.ensures.cases.0 (pile_of c.args.stack.now).capacity at c.in-Body.ensures
    (rw c.in_err-ok_or-in-Body.ensures.ok_part at c.lambda.ensures))
