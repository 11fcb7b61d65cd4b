use Rattle.lent.specs.Piles.{pile_of}
use Rattle.std.proofs.Common.{◌-◌, length, sym, refl, ap, ◌∙◌, arith}
use Rattle.store.proofs.Growth.{stays_same}
use borrow.Rule.Slice.PartMut.{same_len_mid}
use Rattle.lent.proofs.Words.{pile_lent, stack-spare, stack_lent}
use Rattle.lent.proofs.Refused.{refused}
use Rattle.typing.proofs.Refusals.{down-stands, free_short, lambda_short, wait_short, scope-short, constant_short}
use Rattle.typing.proofs.Steps.{ups, free_tried, bound_tried, constant_tried, into_function, into_body, lambda_refused}
use Rattle.typing.proofs.infer.down.Goals as goal

pub term_at-requires : goal.term_at-requires
term_at-requires g c = down-stands c.requires.at.1

-- FREE VARIABLES
pub returns-in_ok-ok-in-Free-clause-moves : goal.returns-in_ok-ok-in-Free-clause-moves
unfolding pile_of
returns-in_ok-ok-in-Free-clause-moves g c th x k at =
    let st = g.S.Store.state in
    let o = c.in_ok-ok-in-Free.ensures in
    let e = pile_lent c.args.f.now.words.now c.ok_type.new.words c.args.f.now.len (length c.args.f.now.words.now - c.args.f.now.len) (pile_of c.args.f.now) c.args.f.now.fits refl in
    rw (c.then_some.ensures, e)
    (free_tried th (st c.args.store.now) (st c.ok_type.new.store) (pile_of c.args.f.now).held (pile_of c.args.scope.now).held c.args.t c.in_ok-ok-in-Free.ok at o.stays
    c.in-Free.ensures (λ a h. o.cases th a k h))

pub returns-in_err-ok-in-Free-clause-moves : goal.returns-in_err-ok-in-Free-clause-moves
returns-in_err-ok-in-Free-clause-moves g c th x k at =
    let z = stack-spare c.args.f.now in
    refused _ c.from_residual.result c.from_residual.ensures.0
    (free_short th (pile_of c.args.f.now).capacity (length c.args.scratch.now) (pile_of c.args.scope.now).capacity (g.S.Store.state c.args.store.now)
    (pile_of c.args.f.now).held (pile_of c.args.scope.now).held c.args.t at c.in-Free.ensures (λ a h. omega (arith, z, c.in_err-ok-in-Free.ensures.cases th a k h)))

-- BOUND VARIABLES
pub returns-in-Bound-clause-moves : goal.returns-in-Bound-clause-moves
returns-in-Bound-clause-moves g c th x k at =
    let s = g.S.Store.state c.args.store.now in
    rw (ups c.type_at.result c.map.result c.map.ensures.cases)
    (bound_tried th s s (pile_of c.args.f.now).held (pile_of c.args.scope.now).held c.args.t c.type_at.result at stays_same c.in-Bound.ensures c.type_at.ensures)

-- CONSTANTS
pub returns-in_ok-found-in-Constant-clause-moves : goal.returns-in_ok-found-in-Constant-clause-moves
unfolding pile_of
returns-in_ok-found-in-Constant-clause-moves g c th x k at =
    let st = g.S.Store.state in
    let e = pile_lent c.args.f.now.words.now c.const_at.new.words c.args.f.now.len (length c.args.f.now.words.now - c.args.f.now.len) (pile_of c.args.f.now) c.args.f.now.fits refl in
    rw (ups c.in_ok-found-in-Constant.found c.map-in-Constant.result c.map-in-Constant.ensures.cases, e)
    (constant_tried th (st c.args.store.now) (st c.const_at.new.store) (pile_of c.args.f.now).held (pile_of c.args.scope.now).held c.args.t
    c.in_ok-found-in-Constant.found c.in-Constant.ensures at
    (λ u v. c.in_ok-found-in-Constant.ensures th v.name v.args k v.name_is v.args_are))

pub returns-in_err-found-in-Constant-clause-moves : goal.returns-in_err-found-in-Constant-clause-moves
returns-in_err-found-in-Constant-clause-moves g c th x k at =
    let z = stack-spare c.args.f.now in
    refused _ c.from_residual-in_err-found-in-Constant.result c.from_residual-in_err-found-in-Constant.ensures.0
    (constant_short th (pile_of c.args.f.now).capacity (length c.args.scratch.now) (pile_of c.args.scope.now).capacity (g.S.Store.state c.args.store.now)
    (pile_of c.args.f.now).held (pile_of c.args.scope.now).held c.args.t at c.in-Constant.ensures
    (λ u v. rw z at (c.in_err-found-in-Constant.ensures th v.name v.args k v.name_is v.args_are)))

-- APPLICATIONS
pub returns-in_ok-push_all-in-Apply-clause-moves : goal.returns-in_ok-push_all-in-Apply-clause-moves
returns-in_ok-push_all-in-Apply-clause-moves g c th x k at =
    let s = g.S.Store.state c.args.store.now in
    into_function th s s (pile_of c.args.f.now).held (pile_of c.args.scope.now).held c.args.t at c.in-Apply.ensures c.in_ok-push_all-in-Apply.ensures.cases.0

pub returns-in_err-push_all-in-Apply-clause-moves : goal.returns-in_err-push_all-in-Apply-clause-moves
returns-in_err-push_all-in-Apply-clause-moves g c th x k at =
    refused _ c.from_residual-in_err-push_all-in-Apply.result c.from_residual-in_err-push_all-in-Apply.ensures.0
    (wait_short th (pile_of c.args.f.now).capacity (length c.args.scratch.now) (pile_of c.args.scope.now).capacity (g.S.Store.state c.args.store.now)
    (pile_of c.args.f.now).held (pile_of c.args.scope.now).held c.args.t at c.in_err-push_all-in-Apply.ensures.cases.1)

-- λ
pub returns-in_err-ok_type-in-Lambda-clause-moves : goal.returns-in_err-ok_type-in-Lambda-clause-moves
returns-in_err-ok_type-in-Lambda-clause-moves g c th x k at =
    let z = stack-spare c.args.f.now in
    refused _ c.from_residual-in_err-ok_type-in-Lambda.result c.from_residual-in_err-ok_type-in-Lambda.ensures.0
    (lambda_short th (pile_of c.args.f.now).capacity (length c.args.scratch.now) (pile_of c.args.scope.now).capacity (g.S.Store.state c.args.store.now)
    (pile_of c.args.f.now).held (pile_of c.args.scope.now).held c.args.t at c.in-Lambda.ensures
    (λ a h. omega (arith, z, c.in_err-ok_type-in-Lambda.ensures.cases th a k h)))

pub returns-then-not-branch-clause-moves : goal.returns-then-not-branch-clause-moves
unfolding pile_of
returns-then-not-branch-clause-moves g c th x k at =
    let st = g.S.Store.state in
    let o = c.in_ok-ok_type-in-Lambda.ensures in
    let e = pile_lent c.args.f.now.words.now c.ok_type-in-Lambda.new.words c.args.f.now.len (length c.args.f.now.words.now - c.args.f.now.len) (pile_of c.args.f.now) c.args.f.now.fits refl in
    rw e
    (lambda_refused th (st c.args.store.now) (st c.ok_type-in-Lambda.new.store) (pile_of c.args.f.now).held (pile_of c.args.scope.now).held c.args.t at o.stays
    c.in-Lambda.ensures (λ a h. sym c.if-not-branch.true ∙ o.cases th a k h))

pub returns-in_err-push_all-in-Lambda-clause-moves : goal.returns-in_err-push_all-in-Lambda-clause-moves
unfolding pile_of
returns-in_err-push_all-in-Lambda-clause-moves g c th x k at =
    let e = pile_lent c.args.f.now.words.now c.ok_type-in-Lambda.new.words c.args.f.now.len (length c.args.f.now.words.now - c.args.f.now.len) (pile_of c.args.f.now) c.args.f.now.fits refl in
    let l = c.in_err-push_all-in-Lambda.ensures.cases.1 in
    let f = c.args.f.now in
    let m = same_len_mid f.len (length f.words.now - f.len) f.words.now c.ok_type-in-Lambda.new.words c.ok_type-in-Lambda.auto.words in
    refused _ c.from_residual-in_err-push_all-in-Lambda.result c.from_residual-in_err-push_all-in-Lambda.ensures.0
    (wait_short th (pile_of c.args.f.now).capacity (length c.args.scratch.now) (pile_of c.args.scope.now).capacity (g.S.Store.state c.args.store.now)
    (pile_of c.args.f.now).held (pile_of c.args.scope.now).held c.args.t at (omega (arith, l, m, ap length e)))

pub returns-in_ok-push-in-Lambda-clause-moves : goal.returns-in_ok-push-in-Lambda-clause-moves
unfolding pile_of
returns-in_ok-push-in-Lambda-clause-moves g c th x k at =
    let st = g.S.Store.state in
    let o = c.in_ok-ok_type-in-Lambda.ensures in
    let e = pile_lent c.args.f.now.words.now c.ok_type-in-Lambda.new.words c.args.f.now.len (length c.args.f.now.words.now - c.args.f.now.len) (pile_of c.args.f.now) c.args.f.now.fits refl in
    into_body th (st c.args.store.now) (st c.ok_type-in-Lambda.new.store) (pile_of c.args.f.now).held (pile_of c.args.scope.now).held c.args.t at o.stays c.in-Lambda.ensures
    (λ a h. sym c.if-not-branch.false ∙ o.cases th a k h) (rw e at c.in_ok-push_all-in-Lambda.ensures.cases.0) c.in_ok-push-in-Lambda.ensures.cases.0

pub returns-in_err-push-in-Lambda-clause-moves : goal.returns-in_err-push-in-Lambda-clause-moves
returns-in_err-push-in-Lambda-clause-moves g c th x k at =
    refused _ c.from_residual-in_err-push-in-Lambda.result c.from_residual-in_err-push-in-Lambda.ensures.0
    (scope-short th (pile_of c.args.f.now).capacity (length c.args.scratch.now) (pile_of c.args.scope.now).capacity (g.S.Store.state c.args.store.now)
    (pile_of c.args.f.now).held (pile_of c.args.scope.now).held c.args.t at c.in_err-push-in-Lambda.ensures.cases.1)

-- HOW MANY THE STACK CAN HOLD
pub returns-in_err-ok-in-Free-clause-stack : goal.returns-in_err-ok-in-Free-clause-stack
returns-in_err-ok-in-Free-clause-stack g c = ap (λ o. o.capacity) (stack_lent c.args.f.now _ c.ok_type.new.words refl refl refl c.ok_type.auto.words)

pub returns-in_ok-ok-in-Free-clause-stack : goal.returns-in_ok-ok-in-Free-clause-stack
returns-in_ok-ok-in-Free-clause-stack g c = ap (λ o. o.capacity) (stack_lent c.args.f.now _ c.ok_type.new.words refl refl refl c.ok_type.auto.words)

pub returns-in_err-found-in-Constant-clause-stack : goal.returns-in_err-found-in-Constant-clause-stack
returns-in_err-found-in-Constant-clause-stack g c = ap (λ o. o.capacity) (stack_lent c.args.f.now _ c.const_at.new.words refl refl refl c.const_at.auto.words)

pub returns-in_ok-found-in-Constant-clause-stack : goal.returns-in_ok-found-in-Constant-clause-stack
returns-in_ok-found-in-Constant-clause-stack g c = ap (λ o. o.capacity) (stack_lent c.args.f.now _ c.const_at.new.words refl refl refl c.const_at.auto.words)

pub returns-in_err-ok_type-in-Lambda-clause-stack : goal.returns-in_err-ok_type-in-Lambda-clause-stack
returns-in_err-ok_type-in-Lambda-clause-stack g c = ap (λ o. o.capacity) (stack_lent c.args.f.now _ c.ok_type-in-Lambda.new.words refl refl refl c.ok_type-in-Lambda.auto.words)

pub returns-then-not-branch-clause-stack : goal.returns-then-not-branch-clause-stack
returns-then-not-branch-clause-stack g c = ap (λ o. o.capacity) (stack_lent c.args.f.now _ c.ok_type-in-Lambda.new.words refl refl refl c.ok_type-in-Lambda.auto.words)

pub returns-in_err-push_all-in-Lambda-clause-stack : goal.returns-in_err-push_all-in-Lambda-clause-stack
returns-in_err-push_all-in-Lambda-clause-stack g c = ap (λ o. o.capacity) c.in_err-push_all-in-Lambda.ensures.cases.0 ∙ ap (λ o. o.capacity) (stack_lent c.args.f.now _ c.ok_type-in-Lambda.new.words refl refl refl c.ok_type-in-Lambda.auto.words)

pub returns-in_err-push-in-Lambda-clause-stack : goal.returns-in_err-push-in-Lambda-clause-stack
returns-in_err-push-in-Lambda-clause-stack g c = c.in_ok-push_all-in-Lambda.ensures.cases.1 ∙ ap (λ o. o.capacity) (stack_lent c.args.f.now _ c.ok_type-in-Lambda.new.words refl refl refl c.ok_type-in-Lambda.auto.words)

pub returns-in_ok-push-in-Lambda-clause-stack : goal.returns-in_ok-push-in-Lambda-clause-stack
returns-in_ok-push-in-Lambda-clause-stack g c = c.in_ok-push_all-in-Lambda.ensures.cases.1 ∙ ap (λ o. o.capacity) (stack_lent c.args.f.now _ c.ok_type-in-Lambda.new.words refl refl refl c.ok_type-in-Lambda.auto.words)
