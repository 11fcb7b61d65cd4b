use Rattle.std.proofs.Common.{length}
use Rattle.store.specs.Views.{ViewFree, ViewConstant}
use Rattle.rebuild.proofs.instantiating.InstantiatingLeaf.leaf.Goals as goal
use Rattle.rebuild.proofs.Leaves.{inst_free, inst_const}

pub returns-in_ok-b-in-Some-Free : goal.returns-in_ok-b-in-Some-Free
returns-in_ok-b-in-Some-Free g c F u o e l =
    let st = g.S.Store.state in
    let s = st c.args.store.now in
    let x = c.in-Some-Free.x in
    let a = c.in-Some-Free.a in
    let w : ViewFree s.contents x a u = rw c.in-Some-Free.field-0-is at (c.in-Some-Free.ensures u e) in
    rw c.ok_or.ensures.value
    (inst_free o.entries F o.change s (st c.subst_type.new.store) (st c.free.new.self) (length c.args.words.now) c.args._depth u x a _ w
    (c.in_ok-b-in-Some-Free.ensures o.entries w.ty o.entries_are w.ty_is) _ _ c.free.ensures)

pub returns-in_ok-types-in-Some-Constant : goal.returns-in_ok-types-in-Some-Constant
returns-in_ok-types-in-Some-Constant g c F u o e l =
    let st = g.S.Store.state in
    let s = st c.args.store.now in
    let x = c.in-Some-Constant.x in
    let a = c.in-Some-Constant.list in
    let w : ViewConstant s.contents x a u = rw c.in-Some-Constant.field-0-is at (c.in-Some-Constant.ensures u e) in
    rw c.ok_or-in-Some-Constant.ensures.value
    (inst_const o.entries F o.change s (st c.subst_types.new.store) (st c.constant.new.self) (length c.args.words.now) c.args._depth u x a
    _ w (c.in_ok-types-in-Some-Constant.ensures o.entries w.args o.entries_are w.args_are) _ _ c.constant.ensures)
