-- Each token does to the count what it does to the trees ahead.
use Rattle.std.proofs.Common.{ap}
use Rattle.reader.proofs.Nesting.{counting_start, counting_out, counting_in, none_left, starts_here}
use Rattle.reader.proofs.line.start_of.Goals as goal
use Rattle.reader.proofs.line.start_of.Goals.{then-depth-eq0+else-begun-n, else-depth-eq0}

pub loop-depth-init : goal.loop-depth-init
loop-depth-init c = counting_start c.args.text.now c.args.n c.new-tokens.result (ap (λ r. r.now) c.new-tokens.ensures)

pub returns-then-begun-n-clause-says : goal.returns-then-begun-n-clause-says
returns-then-begun-n-clause-says c =
    let l = c.loop-depth in
    starts_here c.args.text.now c.args.n l.tokens l.depth l.begun l.invariant c.skip-ahead.result.now
    c.if-depth-eq0.true c.if-begun-n.true c.skip-ahead.ensures

pub loop-depth-preserved : goal.loop-depth-preserved
loop-depth-preserved c =
    let text = c.args.text.now in
    let l = c.loop-depth in
    let on = c.in-Some.ensures.steps in
    elim c.if-depth-eq0.branch [
      | then-depth-eq0+else-begun-n w ↦
          simp (c.depth_behind-depth.ensures, w.begun-is)
          (counting_out text c.args.n l.tokens l.depth l.begun l.invariant c.in-Some.token c.next.new.self on
          w.if-depth-eq0.true w.if-begun-n.false)
      | else-depth-eq0 w ↦
          simp (c.depth_behind-depth.ensures, w.begun-is)
          (counting_in text c.args.n l.tokens l.depth l.begun l.invariant c.in-Some.token c.next.new.self on
          w.if-depth-eq0.false)
    ]

pub returns-in-None-clause-says : goal.returns-in-None-clause-says
returns-in-None-clause-says c =
    let l = c.loop-depth in
    none_left c.args.text.now c.args.n l.tokens l.depth l.begun l.invariant _ c.in-None.ensures.steps.0
