use Rattle.std.proofs.Common.{true, false, refl, ap, ◌∙◌, arith}
use Rattle.hol.specs.Syntax.{closed}
use Rattle.walk.proofs.Pending.{begin, newest, decides}
use Rattle.walk.proofs.Passing.{nodes_positive, pass_turned, pass_falls, pass_fits}
use Rattle.walk.proofs.FreeVars.{closing_passes, run_open}
use Rattle.lent.proofs.Refused.{refused}
use Rattle.walk.proofs.free.closed.Goals as goal

pub returns-in_err-push : goal.returns-in_err-push
returns-in_err-push g c u h =
    let e = rw c.new-pending.ensures.empty at c.in_err-push.ensures.cases.1 in
    refused _ c.from_residual.result c.from_residual.ensures.0 (omega (arith, e, nodes_positive u))

pub loop-next-init : goal.loop-next-init
loop-next-init g c = (
  rw c.new-pending.ensures.empty at c.in_ok-push.ensures.cases.1,
  λ u h. begin (rw c.new-pending.ensures.empty at c.in_ok-push.ensures.cases.0) u h true refl 0 (omega arith),
)

pub term_at-view-requires : goal.term_at-view-requires
term_at-view-requires g c = let (u, h) = c.requires.stands in newest (c.loop-next.invariant.1 u h) c.in-Some.ensures.cases.0

pub returns-in-Free : goal.returns-in-Free
returns-in-Free g c u h =
    let p = c.loop-next.invariant.1 u h in
    let (t, f) = newest p c.in-Some.ensures.cases.0 in
    decides p c.in-Some.ensures.cases.0 t f false (ap closed (c.in-Free.ensures t f).is) run_open

pub returns-in_err-push_subterms : goal.returns-in_err-push_subterms
returns-in_err-push_subterms g c u h =
    let l = pass_fits closing_passes (g.S.Store.state c.args.store.now).contents (c.loop-next.invariant.1 u h)
    c.in-Some.ensures.cases.0 c.term_at-view.result c.term_at-view.ensures c.in_default-view.not-Free in
    refused _ c.from_residual-in_err-push_subterms.result c.from_residual-in_err-push_subterms.ensures.0
    (omega (arith, l, c.in_err-push_subterms.ensures.cases.1, c.in-Some.ensures.cases.1, c.loop-next.invariant.0))

pub loop-next-smaller : goal.loop-next-smaller
loop-next-smaller g c =
    let (u, h) = c.requires.stands in
    pass_falls closing_passes (g.S.Store.state c.args.store.now).contents (c.loop-next.invariant.1 u h)
    c.in-Some.ensures.cases.0 c.term_at-view.result c.term_at-view.ensures c.in_default-view.not-Free
    c.in_ok-push_subterms.ensures.cases.0

pub loop-next-preserved : goal.loop-next-preserved
loop-next-preserved g c = (
  c.in_ok-push_subterms.ensures.cases.1 ∙ (c.in-Some.ensures.cases.1 ∙ c.loop-next.invariant.0),
  λ u h. pass_turned closing_passes (g.S.Store.state c.args.store.now).contents
      (c.loop-next.invariant.1 u h) c.in-Some.ensures.cases.0 c.term_at-view.result c.term_at-view.ensures c.in_default-view.not-Free
      c.in_ok-push_subterms.ensures.cases.0,
)
