use Rattle.std.proofs.Common.{arith}
use Rattle.std.specs.Iterator.Adapters.{rev_source}
use Rattle.std.specs.Slice.Iter.{iter_rest}
use Rattle.nodes.specs.Meaning.{state_of}
use Rattle.nodes.proofs.Naming.{zero_word, names_none, names_more, names_room, names_all}
use Rattle.nodes.proofs.table.Nodes.name.Goals as goal

pub loop-byte-init : goal.loop-byte-init
loop-byte-init c =
    rw (c.into_iter-byte-iterator.ensures.into_iter_gives, c.rev-byte-items.ensures.source, c.iter.ensures.rest)
    (names_none (state_of c.args.self.now) c.args.w.now (zero_word c.args.self.now.words.now c.args.self.now.used))

pub loop-byte-preserved : goal.loop-byte-preserved
loop-byte-preserved c =
    names_more (iter_rest (rev_source c.next.new.self)) c.in-Some.byte.now c.loop-byte.invariant c.in-Some.ensures.steps (state_of c.put.new.self) c.in_ok-n.n (λ i. omega (arith, c.type_inv.w i)) c.in_ok-n.ensures.grows
    c.in_ok-n.ensures.stands

pub returns-in_err-n : goal.returns-in_err-n
returns-in_err-n c =
    absurd (names_room (iter_rest (rev_source c.next.new.self)) c.in-Some.byte.now c.loop-byte.invariant c.in-Some.ensures.steps (omega (arith, c.left.ensures)) c.in_err-n.ensures.short)

pub returns : goal.returns
returns c = names_all (iter_rest (rev_source c.loop-byte.byte-iterator)) c.loop-byte.invariant c.in-None.ensures.steps.0
