use Rattle.lent.specs.Piles.{pile_of}
use Rattle.std.proofs.Common.{ap}
use Rattle.rebuild_types.proofs.run.Goals as goal
use Rattle.lent.proofs.Refused.{an_err}
use Rattle.rebuild_types.proofs.Loop.{set_out, again, less, refused, arrives}

pub loop-turn-init : goal.loop-turn-init
loop-turn-init g c =
    set_out (g.S.Store.state c.args.store.now) c.args.entries.now c.args.start (pile_of c.new-stack.result) (ap (λ p. p.held) c.new-stack.ensures.empty)

pub returns-in-End : goal.returns-in-End
returns-in-End g c es k y e at = arrives k y (rw c.in-End.is at (c.loop-turn.invariant.ways es k y e at))

pub loop-turn-preserved-in_ok-turn-in-DownType : goal.loop-turn-preserved-in_ok-turn-in-DownType
loop-turn-preserved-in_ok-turn-in-DownType g c =
    let p = c.in_ok-turn-in-DownType.ensures in
    again (pile_of c.loop-turn.stack) c.loop-turn.invariant c.in-DownType.is (pile_of c.down_type.new.stack) p.moves p.capacity

pub loop-turn-smaller-in_ok-turn-in-DownType : goal.loop-turn-smaller-in_ok-turn-in-DownType
loop-turn-smaller-in_ok-turn-in-DownType g c =
    let p = c.in_ok-turn-in-DownType.ensures in
    let e = c.requires.entries in
    let x = c.requires.start in
    less (pile_of c.loop-turn.stack) c.loop-turn.invariant c.in-DownType.is (pile_of c.down_type.new.stack) p.moves e.0 x.0 x.1 e.1 x.2

pub returns-in_err-turn-in-DownType : goal.returns-in_err-turn-in-DownType
returns-in_err-turn-in-DownType g c es k y e at =
    let p = c.in_err-turn-in-DownType.ensures in
    let r = c.from_residual in
    let l = refused (pile_of c.loop-turn.stack) c.loop-turn.invariant c.in-DownType.is p.moves es k y e at in
    rw (an_err r.result r.ensures.0).1 (rw c.new-stack.ensures.empty at l)

pub loop-turn-preserved-in_ok-turn-in-DownTypes : goal.loop-turn-preserved-in_ok-turn-in-DownTypes
loop-turn-preserved-in_ok-turn-in-DownTypes g c =
    let p = c.in_ok-turn-in-DownTypes.ensures in
    again (pile_of c.loop-turn.stack) c.loop-turn.invariant c.in-DownTypes.is (pile_of c.down_types.new.stack) (λ es x e. p.moves es x) p.capacity

pub loop-turn-smaller-in_ok-turn-in-DownTypes : goal.loop-turn-smaller-in_ok-turn-in-DownTypes
loop-turn-smaller-in_ok-turn-in-DownTypes g c =
    let p = c.in_ok-turn-in-DownTypes.ensures in
    let e = c.requires.entries in
    let x = c.requires.start in
    less (pile_of c.loop-turn.stack) c.loop-turn.invariant c.in-DownTypes.is (pile_of c.down_types.new.stack) (λ es x e. p.moves es x) e.0 x.0 x.1 e.1 x.2

pub returns-in_err-turn-in-DownTypes : goal.returns-in_err-turn-in-DownTypes
returns-in_err-turn-in-DownTypes g c es k y e at =
    let p = c.in_err-turn-in-DownTypes.ensures in
    let r = c.from_residual-in_err-turn-in-DownTypes in
    let l = refused (pile_of c.loop-turn.stack) c.loop-turn.invariant c.in-DownTypes.is (λ es x e. p.moves es x) es k y e at in
    rw (an_err r.result r.ensures.0).1 (rw c.new-stack.ensures.empty at l)

pub loop-turn-preserved : goal.loop-turn-preserved
loop-turn-preserved g c =
    let p = c.in_ok-turn-in-Up.ensures in
    again (pile_of c.loop-turn.stack) c.loop-turn.invariant c.in-Up.is (pile_of c.up.new.stack) (λ es x e. p.moves es x) p.capacity

pub loop-turn-smaller : goal.loop-turn-smaller
loop-turn-smaller g c =
    let p = c.in_ok-turn-in-Up.ensures in
    let e = c.requires.entries in
    let x = c.requires.start in
    less (pile_of c.loop-turn.stack) c.loop-turn.invariant c.in-Up.is (pile_of c.up.new.stack) (λ es x e. p.moves es x) e.0 x.0 x.1 e.1 x.2

pub returns-in_err-turn-in-Up : goal.returns-in_err-turn-in-Up
returns-in_err-turn-in-Up g c es k y e at =
    let p = c.in_err-turn-in-Up.ensures in
    let r = c.from_residual-in_err-turn-in-Up in
    let l = refused (pile_of c.loop-turn.stack) c.loop-turn.invariant c.in-Up.is (λ es x e. p.moves es x) es k y e at in
    rw (an_err r.result r.ensures.0).1 (rw c.new-stack.ensures.empty at l)
