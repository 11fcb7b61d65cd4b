use Rattle.lent.specs.Piles.{pile_of}
use Rattle.rebuild_types.proofs.down_types.Goals as goal
use Rattle.lent.proofs.Refused.{an_err}
use Rattle.rebuild_types.proofs.Steps.{empty_done, into_list, list_stuck}

pub returns-in-Nil-clause-moves : goal.returns-in-Nil-clause-moves
returns-in-Nil-clause-moves g c es x at =
    let s = g.S.Store.state c.args.store.now in
    empty_done es s s (pile_of c.args.stack.now).held c.args.list at
    (λ bs i. rw (c.in_ok-ok_or.ensures.ok_part, c.in-Nil.is) at (c.view_types.ensures bs i))

pub returns-in_ok-push_all-in-Cons-clause-moves : goal.returns-in_ok-push_all-in-Cons-clause-moves
returns-in_ok-push_all-in-Cons-clause-moves g c es x at =
    let s = g.S.Store.state c.args.store.now in
    into_list es s s (pile_of c.args.stack.now).held c.args.list c.in-Cons.a c.in-Cons.rest (pile_of c.push_all.new.self).held at
    (λ bs i. rw (c.in_ok-ok_or.ensures.ok_part, c.in-Cons.is) at (c.view_types.ensures bs i)) c.in_ok-push_all-in-Cons.ensures.cases.0

pub returns-in_err-push_all-in-Cons-clause-moves : goal.returns-in_err-push_all-in-Cons-clause-moves
returns-in_err-push_all-in-Cons-clause-moves g c es x at =
    let s = g.S.Store.state c.args.store.now in
    rw (an_err c.from_residual-in_err-push_all-in-Cons.result c.from_residual-in_err-push_all-in-Cons.ensures.0).1
    (list_stuck es s s (pile_of c.args.stack.now).held c.args.list (pile_of c.args.stack.now).capacity c.in-Cons.a c.in-Cons.rest at
    (λ bs i. rw (c.in_ok-ok_or.ensures.ok_part, c.in-Cons.is) at (c.view_types.ensures bs i)) c.in_err-push_all-in-Cons.ensures.cases.1)
