use Rattle.std.proofs.Common.{refl}
use Rattle.lent.specs.Piles.{pile_of}
use Rattle.lent.proofs.Words.{stack-spare, stack_lent}
use Rattle.lent.proofs.Refused.{an_err}
use Rattle.rebuild.proofs.at_leaf.Goals as goal
use Rattle.rebuild.proofs.Steps.{leaf-done, leaf_stuck}

pub returns-clause-stack : goal.returns-clause-stack
returns-clause-stack g c = stack_lent c.args.stack.now _ c.leaf.new.words refl refl refl c.leaf.auto.words

pub returns-in_err-n-clause-stack : goal.returns-in_err-n-clause-stack
returns-in_err-n-clause-stack g c = stack_lent c.args.stack.now _ c.leaf.new.words refl refl refl c.leaf.auto.words

pub returns-clause-moves : goal.returns-clause-moves
returns-clause-moves g c F d p u e i l h q =
    let st = g.S.Store.state in
    leaf-done F d (st c.args.store.now) (st c.leaf.new.store) (pile_of c.args.stack.now).held p h c.args.depth q u l c.in_ok-n.n
    (c.in_ok-n.ensures F u e i l)

pub returns-in_err-n-clause-moves : goal.returns-in_err-n-clause-moves
returns-in_err-n-clause-moves g c F d p u e i l h q =
    let st = g.S.Store.state in
    rw (an_err c.from_residual.result c.from_residual.ensures.0).1
    (leaf_stuck F d (st c.args.store.now) (st c.leaf.new.store) (pile_of c.args.stack.now).held p h c.args.depth q u l (pile_of c.args.stack.now).capacity _
    (stack-spare c.args.stack.now) (c.in_err-n.ensures F u e i l))
