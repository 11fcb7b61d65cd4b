use Rattle.std.proofs.Common.{true, false, sym, refl, ap, ◌∙◌, arith}
use Rattle.hol.specs.Syntax.{free_in}
use Rattle.store.proofs.Growth.{stays_same, stays_on}
use Rattle.walk.proofs.FreeVars.{seeking_passes, run-found}
use Rattle.walk.proofs.Passing.{nodes_positive, pass_turned, pass_falls, pass_fits}
use Rattle.walk.proofs.Pending.{begin, newest, decides, skip_turned, skip_falls}
use Rattle.lent.proofs.Refused.{refused}
use Rattle.walk.proofs.free.free_in.Goals as goal

pub returns-in_err-push-clause-cases : goal.returns-in_err-push-clause-cases
returns-in_err-push-clause-cases g c y b u hy hb h =
    let e = rw c.new-pending.ensures.empty at c.in_err-push.ensures.cases.1 in
    refused _ c.from_residual.result c.from_residual.ensures.0 (omega (arith, e, nodes_positive u))

pub loop-next-init : goal.loop-next-init
loop-next-init g c = (
  rw c.new-pending.ensures.empty at c.in_ok-push.ensures.cases.1,
  stays_same,
  λ y b u hy hb h. begin (rw c.new-pending.ensures.empty at c.in_ok-push.ensures.cases.0) u h false refl 0 (omega arith),
)

pub term_at-view-requires : goal.term_at-view-requires
term_at-view-requires g c =
    let p = c.requires in
    newest (c.loop-next.invariant.2 p.name.0 p.typ.0 p.term.0 p.name.1 p.typ.1 p.term.1) c.in-Some.ensures.cases.0

pub returns-then-same_variable-clause-cases : goal.returns-then-same_variable-clause-cases
returns-then-same_variable-clause-cases g c y b u hy hb h =
    let e = c.in-Some.ensures.cases.0 in
    let k = c.loop-next.invariant.1.grows.keeps in
    let p = c.loop-next.invariant.2 y b u hy hb h in
    let (t, f) = newest p e in
    let v = c.in-Free.ensures t f in
    let same = c.same_variable.ensures.same y b v.name v.ty (k.word _ y hy) (k.typ _ b hb) v.name_is v.ty_is in
    decides p e t f true (ap (free_in y b) v.is ∙ (sym same ∙ c.if-same_variable.true)) (run-found y b)

pub loop-next-smaller-else-same_variable : goal.loop-next-smaller-else-same_variable
loop-next-smaller-else-same_variable g c =
    let e = c.in-Some.ensures.cases.0 in
    let (y, hy) = c.requires.name in
    let (b, hb) = c.requires.typ in
    let k = c.loop-next.invariant.1.grows.keeps in
    let p = c.loop-next.invariant.2 y b c.requires.term.0 hy hb c.requires.term.1 in
    let (t, f) = newest p e in
    let v = c.in-Free.ensures t f in
    let same = c.same_variable.ensures.same y b v.name v.ty (k.word _ y hy) (k.typ _ b hb) v.name_is v.ty_is in
    let d = ap (free_in y b) v.is ∙ (sym same ∙ c.if-same_variable.false) in
    skip_falls c.same_variable.ensures.stays.grows.keeps.term p e t f d (nodes_positive t)

pub loop-next-preserved-else-same_variable : goal.loop-next-preserved-else-same_variable
loop-next-preserved-else-same_variable g c = (
  c.in-Some.ensures.cases.1 ∙ c.loop-next.invariant.0,
  stays_on c.loop-next.invariant.1 c.same_variable.ensures.stays,
  λ y b u hy hb h.
      let e = c.in-Some.ensures.cases.0 in
      let k = c.loop-next.invariant.1.grows.keeps in
      let p = c.loop-next.invariant.2 y b u hy hb h in
      let (t, f) = newest p e in
      let v = c.in-Free.ensures t f in
      let same = c.same_variable.ensures.same y b v.name v.ty (k.word _ y hy) (k.typ _ b hb) v.name_is v.ty_is in
      let d = ap (free_in y b) v.is ∙ (sym same ∙ c.if-same_variable.false) in
      skip_turned c.same_variable.ensures.stays.grows.keeps.term p e t f d (nodes_positive t),
)

pub returns-in_err-push_subterms : goal.returns-in_err-push_subterms
returns-in_err-push_subterms g c = record {
  stays = c.loop-next.invariant.1;
  cases = λ y b u hy hb h.
      let l = pass_fits (seeking_passes y b) (g.S.Store.state c.loop-next.store).contents (c.loop-next.invariant.2 y b u hy hb h)
      c.in-Some.ensures.cases.0 c.term_at-view.result c.term_at-view.ensures c.in_default-view.not-Free in
      refused _ c.from_residual-in_err-push_subterms.result c.from_residual-in_err-push_subterms.ensures.0
      (omega (arith, l, c.in_err-push_subterms.ensures.cases.1, c.in-Some.ensures.cases.1, c.loop-next.invariant.0));
}

pub loop-next-smaller : goal.loop-next-smaller
loop-next-smaller g c =
    let p = c.requires in
    pass_falls (seeking_passes p.name.0 p.typ.0) (g.S.Store.state c.loop-next.store).contents
    (c.loop-next.invariant.2 p.name.0 p.typ.0 p.term.0 p.name.1 p.typ.1 p.term.1)
    c.in-Some.ensures.cases.0 c.term_at-view.result c.term_at-view.ensures c.in_default-view.not-Free
    c.in_ok-push_subterms.ensures.cases.0

pub loop-next-preserved : goal.loop-next-preserved
loop-next-preserved g c = (
  c.in_ok-push_subterms.ensures.cases.1 ∙ (c.in-Some.ensures.cases.1 ∙ c.loop-next.invariant.0),
  c.loop-next.invariant.1,
  λ y b u hy hb h. pass_turned (seeking_passes y b) (g.S.Store.state c.loop-next.store).contents
      (c.loop-next.invariant.2 y b u hy hb h) c.in-Some.ensures.cases.0 c.term_at-view.result c.term_at-view.ensures
      c.in_default-view.not-Free c.in_ok-push_subterms.ensures.cases.0,
)
