use Rattle.names.proofs.Spelling.{start, next, differs, ends}
use Rattle.names.proofs.is_named.Goals as goal

pub loop-byte-init : goal.loop-byte-init
loop-byte-init g c = start _ c.args.name c.args.bytes.now

pub loop-byte-preserved : goal.loop-byte-preserved
loop-byte-preserved g c =
    next _ c.args.name c.args.bytes.now c.loop-byte.byte-index c.loop-byte.rest c.loop-byte.invariant c.loop-byte-test.true c.in-Some.tail c.in-Some.ensures

pub returns-in-None : goal.returns-in-None
returns-in-None g c =
    differs _ c.args.name c.args.bytes.now c.loop-byte.byte-index c.loop-byte.rest c.loop-byte.invariant c.loop-byte-test.true c.in-None.ensures

pub returns : goal.returns
returns g c =
    ends _ c.args.name c.args.bytes.now c.loop-byte.byte-index c.loop-byte.rest c.loop-byte.invariant c.loop-byte-test.false c.is_empty.result c.is_empty.ensures
