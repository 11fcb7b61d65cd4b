use Rattle.lent.specs.Piles.{pile_of}
use Rattle.rebuild_types.proofs.down_type.Goals as goal
use Rattle.lent.proofs.Refused.{an_err}
use Rattle.rebuild_types.proofs.Steps.{variable, into_named, named_stuck}

pub returns-in-Variable-clause-moves : goal.returns-in-Variable-clause-moves
returns-in-Variable-clause-moves g c es x e at =
    let st = g.S.Store.state in
    variable es (st c.args.store.now) (st c.find.new.store) (pile_of c.args.stack.now).held c.args.a c.in-Variable.name c.find.result c.map_or.result at
    c.find.ensures.stays (λ a i. rw (c.in_ok-name.ensures.ok_part, c.in-Variable.is) at (c.view_type.ensures a i))
    (λ w i. c.find.ensures.cases es w e i) c.map_or.ensures

pub returns-in_ok-push_all-in-Named-clause-moves : goal.returns-in_ok-push_all-in-Named-clause-moves
returns-in_ok-push_all-in-Named-clause-moves g c es x e at =
    let s = g.S.Store.state c.args.store.now in
    into_named es s s (pile_of c.args.stack.now).held c.args.a c.in-Named.name c.in-Named.args (pile_of c.push_all.new.self).held at
    (λ a i. rw (c.in_ok-name.ensures.ok_part, c.in-Named.is) at (c.view_type.ensures a i)) c.in_ok-push_all-in-Named.ensures.cases.0

pub returns-in_err-push_all-in-Named-clause-moves : goal.returns-in_err-push_all-in-Named-clause-moves
returns-in_err-push_all-in-Named-clause-moves g c es x e at =
    let s = g.S.Store.state c.args.store.now in
    rw (an_err c.from_residual-in_err-push_all-in-Named.result c.from_residual-in_err-push_all-in-Named.ensures.0).1
    (named_stuck es s s (pile_of c.args.stack.now).held c.args.a (pile_of c.args.stack.now).capacity at c.in_err-push_all-in-Named.ensures.cases.1)
