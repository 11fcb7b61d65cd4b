-- The loop keeps that the reader stands where the bytes read lead.
use Rattle.std.proofs.Common.{arith}
use Rattle.reader.proofs.Whole.{begins, goes_on, breaks, ends, refuses}
use Rattle.reader.proofs.count.Goals as goal

pub loop-byte-init : goal.loop-byte-init
loop-byte-init c = rw c.new-reader.ensures (begins c.args.text.now)

pub loop-byte-preserved : goal.loop-byte-preserved
loop-byte-preserved c =
    goes_on c.args.text.now c.loop-byte.byte-index c.loop-byte.reader c.loop-byte.invariant (omega arith)
    c.step.new.self c.in_ok-step.ensures

pub returns-in_err-step : goal.returns-in_err-step
returns-in_err-step c =
    refuses c.args.text.now c.from_residual.result c.from_residual.ensures.0
    (breaks c.args.text.now c.loop-byte.byte-index c.loop-byte.reader c.loop-byte.invariant (omega arith)
    c.step.new.self c.in_err-step.field-0.0 c.in_err-step.ensures)

pub returns : goal.returns
returns c =
    ends c.args.text.now c.loop-byte.byte-index c.loop-byte.reader c.loop-byte.invariant (omega arith)
    c.finish.result c.finish.ensures
