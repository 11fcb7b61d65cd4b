use Rattle.lent.specs.Piles.{pile_of}
use Rattle.std.proofs.Common.{ap}
use Rattle.store.specs.Views.{ViewLambda}
use Rattle.rebuild.specs.Machine.{Point, Moved, Moves, Stuck}
use Rattle.rebuild.specs.declared.turn.Turn.TheVariants.{Down}
use Rattle.lent.proofs.Refused.{an_err}
use Rattle.rebuild.proofs.down.Goals as goal
use Rattle.rebuild.proofs.Steps.{leaf_seen, going_down, going_under, into_apply, apply_stuck}

pub returns-in-Free : goal.returns-in-Free
returns-in-Free g c =
    let st = g.S.Store.state in
    let s = st c.args.store.now in
    let f = (pile_of c.args.stack.now) in
    let p = c.at_leaf.ensures in
    record {
      capacity = ap (λ q. q.capacity) p.stack;
      moves = λ F d x e at a.
          going_down (λ y. Moves F d f.capacity s (st c.at_leaf.new.store) (pile_of c.at_leaf.new.stack).held y c.at_leaf.result) at
          (λ o u i h q. rw p.stack (p.moves F d o u e i (leaf_seen s.contents u c.in_ok-ok_or.field-0 c.in-Free.is (rw c.in_ok-ok_or.ensures.ok_part at (c.view_term.ensures u i))) h q));
    }

pub returns-in_ok-push_all-in-Apply-clause-moves : goal.returns-in_ok-push_all-in-Apply-clause-moves
returns-in_ok-push_all-in-Apply-clause-moves g c F d x e at a =
    let s = g.S.Store.state c.args.store.now in
    going_down (λ y. Moved F d s s (pile_of c.push_all.new.self).held y (Down c.in-Apply.g c.args.depth)) at
    (λ o u i h q. into_apply F d s s (pile_of c.args.stack.now).held o h c.args.depth q u c.in-Apply.g c.in-Apply.x
    (rw (c.in_ok-ok_or.ensures.ok_part, c.in-Apply.is) at (c.view_term.ensures u i)) (pile_of c.push_all.new.self).held c.in_ok-push_all-in-Apply.ensures.cases.0)

pub returns-in_err-push_all-in-Apply-clause-moves : goal.returns-in_err-push_all-in-Apply-clause-moves
returns-in_err-push_all-in-Apply-clause-moves g c F d x e at a =
    let s = g.S.Store.state c.args.store.now in
    rw (an_err c.from_residual-in_err-push_all-in-Apply.result c.from_residual-in_err-push_all-in-Apply.ensures.0).1
    (going_down (Stuck F d (pile_of c.args.stack.now).capacity s) at
    (λ o u i h q. apply_stuck F d s s (pile_of c.args.stack.now).held o h c.args.depth q u c.in-Apply.g c.in-Apply.x
    (rw (c.in_ok-ok_or.ensures.ok_part, c.in-Apply.is) at (c.view_term.ensures u i)) (pile_of c.args.stack.now).capacity
    c.in_err-push_all-in-Apply.ensures.cases.1))

pub returns-in-Lambda-clause-moves : goal.returns-in-Lambda-clause-moves
returns-in-Lambda-clause-moves g c F d x e at a =
    let st = g.S.Store.state in
    let s = st c.args.store.now in
    let n = c.into_lambda.new in
    let P : Point → Type 0 = λ y. Moves F d (pile_of c.args.stack.now).capacity s (st n.store) (pile_of n.stack).held y c.into_lambda.result in
    let l = c.in-Lambda in
    going_down P at
    (λ o u i h q.
    let v : ViewLambda s.contents l.a l.body u = rw (c.in_ok-ok_or.ensures.ok_part, l.is) at (c.view_term.ensures u i) in
    going_under P o v (c.into_lambda.ensures.moves F d o v.ty v.body e v.ty_is v.body_is h q a))
