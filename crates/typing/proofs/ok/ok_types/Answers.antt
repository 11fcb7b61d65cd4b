use Rattle.std.proofs.Common.{true, refl, ◌∙◌, arith}
use Rattle.store.proofs.Growth.{stays_same, stays_on}
use Rattle.walk.proofs.Pending.{begin, newest}
use Rattle.lent.proofs.Refused.{refused}
use Rattle.typing.proofs.OkLists.{not_ok, list-fits, list_turned, list-falls, empty-falls}
use Rattle.typing.proofs.ok.ok_types.Goals as goal

pub loop-next-init : goal.loop-next-init
loop-next-init g c = (
  rw c.new-pending.ensures.empty at c.in_ok-push.ensures.cases.1,
  stays_same,
  λ th bs k h. begin (rw c.new-pending.ensures.empty at c.in_ok-push.ensures.cases.0) bs h true refl 0 (omega arith),
)

pub first_type-requires : goal.first_type-requires
first_type-requires g c =
    let (th, k) = c.requires.theory in
    let (bs, h) = c.requires.stands in
    newest (c.loop-next.invariant.2 th bs k h) c.in-Some.ensures.cases.0

pub head_ok-requires-clause-view : goal.head_ok-requires-clause-view
head_ok-requires-clause-view g c =
    let (th, k) = c.requires.theory in
    let (bs, h) = c.requires.stands in
    let (ds, e) = newest (c.loop-next.invariant.2 th bs k h) c.in-Some.ensures.cases.0 in
    let v = c.in-Some-first_type.ensures ds e in
    (v.first, v.says)

pub returns-then-not-head_ok-clause-cases : goal.returns-then-not-head_ok-clause-cases
returns-then-not-head_ok-clause-cases g c th bs k h =
    let know = (g.T.Signature.meaning c.args.theory.now).kept _ _ th c.loop-next.invariant.1.grows.keeps k in
    not_ok (g.S.Store.state c.loop-next.store).contents th (c.loop-next.invariant.2 th bs k h) c.in-Some.ensures.cases.0
    c.in-Some-first_type.first c.in-Some-first_type.rest c.in-Some-first_type.ensures (c.head_ok.ensures.tells th know) c.if-not-head_ok.true

pub returns-in_err-push_behind-clause-cases : goal.returns-in_err-push_behind-clause-cases
returns-in_err-push_behind-clause-cases g c th bs k h =
    let know = (g.T.Signature.meaning c.args.theory.now).kept _ _ th c.loop-next.invariant.1.grows.keeps k in
    let l = list-fits (g.S.Store.state c.loop-next.store).contents th (c.loop-next.invariant.2 th bs k h) c.in-Some.ensures.cases.0
    c.in-Some-first_type.first c.in-Some-first_type.rest c.in-Some-first_type.ensures (c.head_ok.ensures.tells th know) c.if-not-head_ok.false in
    refused _ c.from_residual-in_err-push_behind.result c.from_residual-in_err-push_behind.ensures.0
    (omega (arith, l, c.in_err-push_behind.ensures.cases.1, c.in-Some.ensures.cases.1, c.loop-next.invariant.0))

pub loop-next-smaller-in_default-first_type : goal.loop-next-smaller-in_default-first_type
loop-next-smaller-in_default-first_type g c =
    let (th, k) = c.requires.theory in
    let (bs, h) = c.requires.stands in
    empty-falls (g.S.Store.state c.loop-next.store).contents th (c.loop-next.invariant.2 th bs k h) c.in-Some.ensures.cases.0
    c.in_default-first_type.ensures

pub loop-next-smaller : goal.loop-next-smaller
loop-next-smaller g c =
    let (th, k) = c.requires.theory in
    let (bs, h) = c.requires.stands in
    let know = (g.T.Signature.meaning c.args.theory.now).kept _ _ th c.loop-next.invariant.1.grows.keeps k in
    list-falls (g.S.Store.state c.loop-next.store).contents th (c.loop-next.invariant.2 th bs k h) c.in-Some.ensures.cases.0
    c.in-Some-first_type.first c.in-Some-first_type.rest c.in-Some-first_type.ensures (c.head_ok.ensures.tells th know)
    c.if-not-head_ok.false c.head_ok.ensures.stays.grows.keeps c.in_ok-push_behind.ensures.cases.0

pub loop-next-preserved : goal.loop-next-preserved
loop-next-preserved g c = (
  c.in_ok-push_behind.ensures.cases.1 ∙ (c.in-Some.ensures.cases.1 ∙ c.loop-next.invariant.0),
  stays_on c.loop-next.invariant.1 c.head_ok.ensures.stays,
  λ th bs k h.
      let know = (g.T.Signature.meaning c.args.theory.now).kept _ _ th c.loop-next.invariant.1.grows.keeps k in
      list_turned (g.S.Store.state c.loop-next.store).contents th (c.loop-next.invariant.2 th bs k h) c.in-Some.ensures.cases.0
      c.in-Some-first_type.first c.in-Some-first_type.rest c.in-Some-first_type.ensures (c.head_ok.ensures.tells th know)
      c.if-not-head_ok.false c.head_ok.ensures.stays.grows.keeps c.in_ok-push_behind.ensures.cases.0,
)
