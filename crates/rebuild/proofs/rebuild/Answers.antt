use Rattle.lent.specs.Piles.{pile_of}
use Rattle.std.proofs.Common.{ap}
use Rattle.lent.proofs.Refused.{an_err}
use Rattle.rebuild.proofs.rebuild.Goals as goal
use Rattle.rebuild.proofs.Loop.{set_out, again, less, refused, arrives}
use Rattle.rebuild.proofs.Steps.{down-stands}

pub loop-turn-init : goal.loop-turn-init
loop-turn-init g c =
    set_out (g.L.Leaf.does c.args.leaf.now) (g.S.Store.state c.args.store.now) c.args.t c.args.depth (pile_of c.new-stack.result)
    (ap (λ p. p.held) c.new-stack.ensures.empty)

pub down-requires : goal.down-requires
down-requires g c =
    let F = c.requires.does in
    let x = c.requires.stands in
    let w = c.loop-turn.invariant.ways F.0 x.0 F.1 x.1 in
    record { does = (F.0, w.does); stands = down-stands (rw c.in-Down.is at w.at) }

pub returns-in-End : goal.returns-in-End
returns-in-End g c F x e i = arrives (rw c.in-End.is at (c.loop-turn.invariant.ways F x e i))

pub loop-turn-preserved-in_ok-turn-in-Down : goal.loop-turn-preserved-in_ok-turn-in-Down
loop-turn-preserved-in_ok-turn-in-Down g c =
    let p = c.in_ok-turn-in-Down.ensures in
    again (pile_of c.loop-turn.stack) c.loop-turn.invariant c.requires.shallow c.in-Down.is (pile_of c.down.new.stack) p.moves
    (g.met.L.Leaf.stays c.args.leaf.now) p.capacity

pub loop-turn-smaller-in_ok-turn-in-Down : goal.loop-turn-smaller-in_ok-turn-in-Down
loop-turn-smaller-in_ok-turn-in-Down g c =
    let p = c.in_ok-turn-in-Down.ensures in
    let F = c.requires.does in
    let x = c.requires.stands in
    less (pile_of c.loop-turn.stack) c.loop-turn.invariant c.requires.shallow c.in-Down.is (pile_of c.down.new.stack) p.moves
    F.0 x.0 F.1 x.1

pub returns-in_err-turn-in-Down : goal.returns-in_err-turn-in-Down
returns-in_err-turn-in-Down g c F x e i =
    let p = c.in_err-turn-in-Down.ensures in
    let r = c.from_residual in
    let l = refused (pile_of c.loop-turn.stack) c.loop-turn.invariant c.requires.shallow c.in-Down.is p.moves F x e i in
    rw (an_err r.result r.ensures.0).1 (rw c.new-stack.ensures.empty at l)

pub loop-turn-preserved : goal.loop-turn-preserved
loop-turn-preserved g c =
    let p = c.in_ok-turn-in-Up.ensures in
    again (pile_of c.loop-turn.stack) c.loop-turn.invariant c.requires.shallow c.in-Up.is (pile_of c.up.new.stack) (λ F d x e at a. p.moves F d x at)
    (g.met.L.Leaf.stays c.args.leaf.now) p.capacity

pub loop-turn-smaller : goal.loop-turn-smaller
loop-turn-smaller g c =
    let p = c.in_ok-turn-in-Up.ensures in
    let F = c.requires.does in
    let x = c.requires.stands in
    less (pile_of c.loop-turn.stack) c.loop-turn.invariant c.requires.shallow c.in-Up.is (pile_of c.up.new.stack) (λ F d x e at a. p.moves F d x at)
    F.0 x.0 F.1 x.1

pub returns-in_err-turn-in-Up : goal.returns-in_err-turn-in-Up
returns-in_err-turn-in-Up g c F x e i =
    let p = c.in_err-turn-in-Up.ensures in
    let r = c.from_residual-in_err-turn-in-Up in
    let l = refused (pile_of c.loop-turn.stack) c.loop-turn.invariant c.requires.shallow c.in-Up.is (λ F d x e at a. p.moves F d x at) F x e i in
    rw (an_err r.result r.ensures.0).1 (rw c.new-stack.ensures.empty at l)
