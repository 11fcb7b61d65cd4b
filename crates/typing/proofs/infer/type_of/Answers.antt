use Rattle.std.proofs.Common.{length, ap, ◌∙◌}
use Rattle.lent.proofs.Refused.{refused}
use Rattle.typing.proofs.Loop.{set_out, goes, falls, lacks, arrives, ends_untyped}
use Rattle.typing.proofs.infer.type_of.Goals as goal

pub loop-turn-init : goal.loop-turn-init
loop-turn-init g c =
    let f = c.new-f.ensures.empty in
    let a = c.new-around.ensures.empty in (
      ap (λ p. p.capacity) f,
      ap (λ p. p.capacity) a,
      λ th u k h. set_out th (g.S.Store.state c.args.store.now) u (ap (λ p. p.held) f) (ap (λ p. p.held) a) h,
    )

-- DOWN
pub down-requires-clause-theory : goal.down-requires-clause-theory
down-requires-clause-theory g c =
    let (th, k) = c.requires.theory in
    let (u, h) = c.requires.stands in
    (th, (g.T.Signature.meaning c.args.theory.now).kept _ _ th (c.loop-turn.invariant.2 th u k h).grows.keeps k)

pub down-requires-clause-at : goal.down-requires-clause-at
down-requires-clause-at g c =
    let (th, k) = c.requires.theory in
    let (u, h) = c.requires.stands in
    let w = c.loop-turn.invariant.2 th u k h in
    (w.to, rw (c.in-Some.is, c.in-Down.is) at w.at)

pub loop-turn-preserved-in_ok-turn-in-Down : goal.loop-turn-preserved-in_ok-turn-in-Down
loop-turn-preserved-in_ok-turn-in-Down g c =
    let i = c.loop-turn.invariant in
    let p = c.in_ok-turn-in-Down.ensures in (
      p.stack ∙ i.0,
      p.scope ∙ i.1,
      λ th u k h.
          let w = i.2 th u k h in
          let know = (g.T.Signature.meaning c.args.theory.now).kept _ _ th w.grows.keeps k in
          goes w (p.moves th w.to know (rw (c.in-Some.is, c.in-Down.is) at w.at)),
    )

pub loop-turn-smaller-in_ok-turn-in-Down : goal.loop-turn-smaller-in_ok-turn-in-Down
loop-turn-smaller-in_ok-turn-in-Down g c =
    let (th, k) = c.requires.theory in
    let (u, h) = c.requires.stands in
    let w = c.loop-turn.invariant.2 th u k h in
    let know = (g.T.Signature.meaning c.args.theory.now).kept _ _ th w.grows.keeps k in
    falls w (c.in_ok-turn-in-Down.ensures.moves th w.to know (rw (c.in-Some.is, c.in-Down.is) at w.at))

pub returns-in_err-turn-in-Down : goal.returns-in_err-turn-in-Down
returns-in_err-turn-in-Down g c th u k h =
    let i = c.loop-turn.invariant in
    let w = i.2 th u k h in
    let know = (g.T.Signature.meaning c.args.theory.now).kept _ _ th w.grows.keeps k in
    refused _ c.from_residual.result c.from_residual.ensures.0
    (lacks w i.0 c.loop-turn.auto.scratch i.1 (c.in_err-turn-in-Down.ensures.moves th w.to know (rw (c.in-Some.is, c.in-Down.is) at w.at)))

-- UP
pub up-requires-clause-name : goal.up-requires-clause-name
up-requires-clause-name g c =
    let (th, k) = c.requires.theory in
    let (u, h) = c.requires.stands in
    (c.loop-turn.invariant.2 th u k h).grows.keeps.word _ _ c.requires.name

pub up-requires-clause-at : goal.up-requires-clause-at
up-requires-clause-at g c =
    let (th, k) = c.requires.theory in
    let (u, h) = c.requires.stands in
    let w = c.loop-turn.invariant.2 th u k h in
    (w.to, rw (c.in-Some.is, c.in-Up.is) at w.at)

pub loop-turn-preserved : goal.loop-turn-preserved
loop-turn-preserved g c =
    let i = c.loop-turn.invariant in
    let p = c.in_ok-turn-in-Up.ensures in (
      p.stack ∙ i.0,
      p.scope ∙ i.1,
      λ th u k h.
          let w = i.2 th u k h in
          goes w (p.moves th w.to (length c.args.scratch.now) (rw (c.in-Some.is, c.in-Up.is) at w.at)),
    )

pub loop-turn-smaller : goal.loop-turn-smaller
loop-turn-smaller g c =
    let (th, k) = c.requires.theory in
    let (u, h) = c.requires.stands in
    let w = c.loop-turn.invariant.2 th u k h in
    falls w (c.in_ok-turn-in-Up.ensures.moves th w.to (length c.args.scratch.now) (rw (c.in-Some.is, c.in-Up.is) at w.at))

pub returns-in_err-turn-in-Up : goal.returns-in_err-turn-in-Up
returns-in_err-turn-in-Up g c th u k h =
    let i = c.loop-turn.invariant in
    let w = i.2 th u k h in
    refused _ c.from_residual-in_err-turn-in-Up.result c.from_residual-in_err-turn-in-Up.ensures.0
    (lacks w i.0 c.loop-turn.auto.scratch i.1
    (c.in_err-turn-in-Up.ensures.moves th w.to (length c.loop-turn.scratch) (rw (c.in-Some.is, c.in-Up.is) at w.at)))

-- THE END
pub returns-in-End : goal.returns-in-End
returns-in-End g c th u k h = arrives (rw (c.in-Some.is, c.in-End.is) at (c.loop-turn.invariant.2 th u k h))

pub returns : goal.returns
returns g c th u k h = ends_untyped (rw c.in_default.is at (c.loop-turn.invariant.2 th u k h))
