use Rattle.lent.specs.Piles.{pile_of}
use Rattle.nodes.proofs.Looping.{one_less, two_less, back_less, equal_front, same_front}
use Rattle.nodes.proofs.Stepping.{ends}
use Rattle.nodes.proofs.table.equal.same.Goals as goal

pub returns-in-None-clause-complete : goal.returns-in-None-clause-complete
returns-in-None-clause-complete c s =
    absurd (c.in-None.ensures (c.loop-pair.invariant.comparing.complete
    (same_front c.args.words.now c.args.used c.split_at_mut-nodes.ensures.front c.requires c.args.m c.args.n s)))

pub loop-pair-smaller-in-Some-Second : goal.loop-pair-smaller-in-Some-Second
loop-pair-smaller-in-Some-Second c = one_less c.loop-pair.invariant (rw c.in-Some-Second.field-0-is at c.in-Some-Second.ensures)

pub loop-pair-smaller-in-Some-Both : goal.loop-pair-smaller-in-Some-Both
loop-pair-smaller-in-Some-Both c =
    let pushed = rw c.unwrap.ensures at c.push_all.ensures.cases in
    two_less c.loop-pair.invariant (pile_of c.push_all.new.self) (rw c.in-Some-Both.field-0-is at c.in-Some-Both.ensures) pushed.0

pub returns-in-None-pop_pair-clause-sound : goal.returns-in-None-pop_pair-clause-sound
returns-in-None-pop_pair-clause-sound c _ =
    equal_front c.args.words.now c.args.used c.split_at_mut-nodes.ensures.front c.requires c.args.m c.args.n
    (ends c.loop-pair.invariant.comparing c.if-pair.false c.in-None-pop_pair.ensures.cases.1)

pub loop-pair-smaller : goal.loop-pair-smaller
loop-pair-smaller c = back_less c.loop-pair.invariant (pile_of c.pop_pair.new.self) c.in-Some.ensures.cases.0
