use Rattle.lent.specs.Piles.{pile_of}
use Rattle.std.proofs.Common.{◌^◌, ◌<◌, ◌∷◌, length, refl, ap, ◌∙◌, arith, rules}
use Rattle.waits.specs.Codes.{code}
use Rattle.waits.specs.declared.Wait.TheVariants.{Body}
use Rattle.lent.proofs.Words.{held-length, stack-spare, stack_lent, no_place}
use Rattle.lent.proofs.Refused.{an_err}
use Rattle.rebuild.proofs.into_lambda.Goals as goal
use Rattle.rebuild.proofs.Steps.{into_lambda, lambda_stuck, lambda_no_place, too_deep}

pub returns-in_err-b-clause-moves : goal.returns-in_err-b-clause-moves
returns-in_err-b-clause-moves g c F d p b u e i j h q a =
    let st = g.S.Store.state in
    rw (an_err c.from_residual.result c.from_residual.ensures.0).1
    (lambda_stuck F d (st c.args.store.now) (st c.typ.new.store) (pile_of c.args.stack.now).held p h c.args.depth q b u (pile_of c.args.stack.now).capacity _
    (stack-spare c.args.stack.now) (c.in_err-b.ensures F b e i))

pub returns-in_err-under-clause-moves : goal.returns-in_err-under-clause-moves
returns-in_err-under-clause-moves g c F d p b u e i j h q a =
    let st = g.S.Store.state in
    let s = c.args.stack.now in
    let n = held-length s in
    let z : length s.words.now < 2 ^ 64 = search rules in
    let l : length (pile_of c.args.stack.now).held < 2 ^ 64 = omega (arith, n, s.fits, z) in
    rw (an_err c.from_residual-in_err-under.result c.from_residual-in_err-under.ensures.0).1
    (too_deep F d (st c.args.store.now) (st c.typ.new.store) (pile_of c.args.stack.now).held p h c.args.depth q b u (pile_of c.args.stack.now).capacity a l
    (rw c.in_err-under.ensures.ok_part at c.checked_add.ensures))

pub returns-in_err-push_all-clause-moves : goal.returns-in_err-push_all-clause-moves
returns-in_err-push_all-clause-moves g c F d p b u e i j h q a =
    let st = g.S.Store.state in
    let f = pile_of c.args.stack.now in
    let l = no_place 2 (stack_lent c.args.stack.now _ c.typ.new.words refl refl refl c.typ.auto.words) c.in_err-push_all.ensures.cases.1 in
    rw (an_err c.from_residual-in_err-push_all.result c.from_residual-in_err-push_all.ensures.0).1
    (lambda_no_place F d (st c.args.store.now) (st c.typ.new.store) f.held p h c.args.depth q b u f.capacity l)

pub returns-clause-moves : goal.returns-clause-moves
returns-clause-moves g c F d p b u e i j h q a =
    let st = g.S.Store.state in
    let k = c.in_ok-under.ensures.ok_part in
    into_lambda F d (st c.args.store.now) (st c.typ.new.store) (pile_of c.args.stack.now).held p h c.args.depth q b u c.args.body
    c.in_ok-under.under j (rw k at c.checked_add.ensures).1 (pile_of c.push_all.new.self).held c.in_ok-b.b
    (c.in_ok-push_all.ensures.cases.0 ∙ ap (λ q. code Body ∷ c.in_ok-b.b ∷ q.held) (stack_lent c.args.stack.now _ c.typ.new.words refl refl refl c.typ.auto.words))
    (c.in_ok-b.ensures F b e i)

-- HOW MANY IT CAN HOLD
pub returns-in_err-b-clause-capacity : goal.returns-in_err-b-clause-capacity
returns-in_err-b-clause-capacity g c = ap (λ o. o.capacity) (stack_lent c.args.stack.now _ c.typ.new.words refl refl refl c.typ.auto.words)

pub returns-in_err-under-clause-capacity : goal.returns-in_err-under-clause-capacity
returns-in_err-under-clause-capacity g c = ap (λ o. o.capacity) (stack_lent c.args.stack.now _ c.typ.new.words refl refl refl c.typ.auto.words)

pub returns-in_err-push_all-clause-capacity : goal.returns-in_err-push_all-clause-capacity
returns-in_err-push_all-clause-capacity g c = ap (λ o. o.capacity) c.in_err-push_all.ensures.cases.0 ∙ ap (λ o. o.capacity) (stack_lent c.args.stack.now _ c.typ.new.words refl refl refl c.typ.auto.words)

pub returns-clause-capacity : goal.returns-clause-capacity
returns-clause-capacity g c = c.in_ok-push_all.ensures.cases.1 ∙ ap (λ o. o.capacity) (stack_lent c.args.stack.now _ c.typ.new.words refl refl refl c.typ.auto.words)
