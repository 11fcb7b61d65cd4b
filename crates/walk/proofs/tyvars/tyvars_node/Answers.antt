use Rattle.std.proofs.Common.{refl, inl, inr}
use Rattle.lent.proofs.Words.{stack-spare, stack_lent}
use Rattle.walk.proofs.tyvars.tyvars_node.Goals as goal

-- WHAT IS PENDING STAYS
pub returns-in-Bound-clause-pending : goal.returns-in-Bound-clause-pending
returns-in-Bound-clause-pending g c = stack_lent c.args.pending.now _ _ refl refl refl refl

pub returns-in-Constant-clause-pending : goal.returns-in-Constant-clause-pending
returns-in-Constant-clause-pending g c = stack_lent c.args.pending.now _ c.tyvars_types.new.words refl refl refl c.tyvars_types.auto.words

pub returns-in-Free-clause-pending : goal.returns-in-Free-clause-pending
returns-in-Free-clause-pending g c = stack_lent c.args.pending.now _ c.tyvars_type.new.words refl refl refl c.tyvars_type.auto.words

-- THE NAMES
pub returns-in-Constant-clause-cases : goal.returns-in-Constant-clause-cases
returns-in-Constant-clause-cases g c t ws says h =
    let s = rw c.in-Constant.is at says in
    rw s.is (rw (stack-spare c.args.pending.now) at c.tyvars_types.ensures.cases s.args ws s.args_are h)

pub returns-in-Free-clause-cases : goal.returns-in-Free-clause-cases
returns-in-Free-clause-cases g c t ws says h =
    elim c.in-Free.is [
      | inl e ↦ let s = rw e.1 at says in rw s.is (rw (stack-spare c.args.pending.now) at c.tyvars_type.ensures.cases s.ty ws s.ty_is h)
      | inr e ↦ let s = rw e.1 at says in rw s.is (rw (stack-spare c.args.pending.now) at c.tyvars_type.ensures.cases s.ty ws s.ty_is h)
    ]
