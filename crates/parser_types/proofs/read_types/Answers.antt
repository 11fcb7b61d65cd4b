use Rattle.std.proofs.Common.{refl, ◌∙◌, ap}
use Rattle.reader.specs.Next.{stream}
use Rattle.parser_types.proofs.Loop.{start, next}
use Rattle.parser_types.proofs.read_types.Goals as goal

pub loop-turn-init : goal.loop-turn-init
loop-turn-init g c = (refl, λ us qs e. start (ap (λ p. p.held) c.new-pending.ensures.empty) e)

pub loop-turn-preserved-in-Some : goal.loop-turn-preserved-in-Some
loop-turn-preserved-in-Some g c =
    let p = c.in_ok-next-in-Next.ensures in (
      p.capacity ∙ c.loop-turn.invariant.0,
      λ us qs e.
          let w = c.loop-turn.invariant.1 us qs e in
          next w (rw c.in-Some.is at p.moves qs w.point (rw c.in-Next.is at w.at)),
    )

pub loop-turn-preserved : goal.loop-turn-preserved
loop-turn-preserved g c =
    let p = c.in_ok-turn-in-Close.ensures in (
      p.capacity ∙ c.loop-turn.invariant.0,
      λ us qs e.
          let w = c.loop-turn.invariant.1 us qs e in
          next w (p.moves (stream c.loop-turn.tokens) qs w.point (rw c.in-Close.is at w.at)),
    )
