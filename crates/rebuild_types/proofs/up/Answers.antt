use Rattle.lent.specs.Piles.{pile_of}
use Rattle.rebuild_types.proofs.up.Goals as goal
use Rattle.lent.proofs.Refused.{an_err}
use Rattle.rebuild_types.proofs.Steps.{ended, named_done, named_full, head_done, head_stuck, list_done, list_full}

pub returns-in_default-clause-moves : goal.returns-in_default-clause-moves
returns-in_default-clause-moves g c es x at =
    let s = g.S.Store.state c.args.store.now in
    ended es s s (pile_of c.args.stack.now).held c.args.n (pile_of c.pop_pair.new.self).held at c.in_default.ensures.cases.1

pub returns-in_ok-ok_or-in-Arguments-clause-moves : goal.returns-in_ok-ok_or-in-Arguments-clause-moves
returns-in_ok-ok_or-in-Arguments-clause-moves g c es x at =
    let st = g.S.Store.state in
    named_done es (st c.args.store.now) (st c.type_named.new.self) (pile_of c.args.stack.now).held c.args.n c.in-Some.k c.in-Some.kept
    (pile_of c.pop_pair.new.self).held c.in-Some.ensures.cases.0 c.in_ok-ok_or-in-Arguments.field-0 at c.in-Arguments.ensures
    (rw c.in_ok-ok_or-in-Arguments.ensures.ok_part at c.type_named.ensures)

pub returns-in_err-ok_or-in-Arguments-clause-moves : goal.returns-in_err-ok_or-in-Arguments-clause-moves
returns-in_err-ok_or-in-Arguments-clause-moves g c es x at =
    let st = g.S.Store.state in
    rw (an_err c.from_residual.result c.from_residual.ensures.0).1
    (named_full es (st c.args.store.now) (st c.type_named.new.self) (pile_of c.args.stack.now).held c.args.n c.in-Some.k c.in-Some.kept
    (pile_of c.pop_pair.new.self).held c.in-Some.ensures.cases.0 (pile_of c.args.stack.now).capacity at c.in-Arguments.ensures
    (rw c.in_err-ok_or-in-Arguments.ensures.ok_part at c.type_named.ensures))

pub returns-in_ok-push_all-in-Head-clause-moves : goal.returns-in_ok-push_all-in-Head-clause-moves
returns-in_ok-push_all-in-Head-clause-moves g c es x at =
    let s = g.S.Store.state c.args.store.now in
    head_done es s s (pile_of c.args.stack.now).held c.args.n c.in-Some.k c.in-Some.kept (pile_of c.pop_pair.new.self).held c.in-Some.ensures.cases.0
    (pile_of c.push_all.new.self).held at c.in-Head.ensures c.in_ok-push_all-in-Head.ensures.cases.0

pub returns-in_err-push_all-in-Head-clause-moves : goal.returns-in_err-push_all-in-Head-clause-moves
returns-in_err-push_all-in-Head-clause-moves g c es x at =
    let s = g.S.Store.state c.args.store.now in
    rw (an_err c.from_residual-in_err-push_all-in-Head.result c.from_residual-in_err-push_all-in-Head.ensures.0).1
    (head_stuck es s s (pile_of c.args.stack.now).held c.args.n c.in-Some.k c.in-Some.kept (pile_of c.pop_pair.new.self).held c.in-Some.ensures.cases.0
    (pile_of c.args.stack.now).capacity at (rw c.in-Some.ensures.cases.1 at c.in_err-push_all-in-Head.ensures.cases.1))

pub returns-in_ok-ok_or-in-Tail-clause-moves : goal.returns-in_ok-ok_or-in-Tail-clause-moves
returns-in_ok-ok_or-in-Tail-clause-moves g c es x at =
    let st = g.S.Store.state in
    list_done es (st c.args.store.now) (st c.cons_type.new.self) (pile_of c.args.stack.now).held c.args.n c.in-Some.k c.in-Some.kept
    (pile_of c.pop_pair.new.self).held c.in-Some.ensures.cases.0 c.in_ok-ok_or-in-Tail.field-0 at c.in-Tail.ensures
    (rw c.in_ok-ok_or-in-Tail.ensures.ok_part at c.cons_type.ensures)

pub returns-in_err-ok_or-in-Tail-clause-moves : goal.returns-in_err-ok_or-in-Tail-clause-moves
returns-in_err-ok_or-in-Tail-clause-moves g c es x at =
    let st = g.S.Store.state in
    rw (an_err c.from_residual-in_err-ok_or-in-Tail.result c.from_residual-in_err-ok_or-in-Tail.ensures.0).1
    (list_full es (st c.args.store.now) (st c.cons_type.new.self) (pile_of c.args.stack.now).held c.args.n c.in-Some.k c.in-Some.kept
    (pile_of c.pop_pair.new.self).held c.in-Some.ensures.cases.0 (pile_of c.args.stack.now).capacity at c.in-Tail.ensures
    (rw c.in_err-ok_or-in-Tail.ensures.ok_part at c.cons_type.ensures))
