use Rattle.std.proofs.Common.{refl, ap, ◌∙◌, inl, inr, arith}
use Rattle.reader.specs.Flat.{depth}
use Rattle.lent.proofs.Refused.{refused}
use Rattle.parser.proofs.Loop.{start, start_lost, next, stuck, term_read, falls}
use Rattle.parser.proofs.term.read_term.Goals as goal

pub loop-turn-init : goal.loop-turn-init
loop-turn-init g c =
    let h = ap (λ p. p.held) c.new-pending.ensures.empty in
    let z = ap (λ p. p.held) c.new-names.ensures.empty in
    (refl, refl, λ n u qs e d. start u h z e d, λ qs e. start_lost e)

pub loop-turn-preserved-in_ok-turn-in-Down : goal.loop-turn-preserved-in_ok-turn-in-Down
loop-turn-preserved-in_ok-turn-in-Down g c =
    let p = c.in_ok-turn-in-Down.ensures in (
      p.capacity ∙ c.loop-turn.invariant.0,
      p.names ∙ c.loop-turn.invariant.1,
      λ n u qs e d.
          let w = rw (c.in-Some.is, c.in-Down.is) at (c.loop-turn.invariant.2 n u qs e d) in
          next w (p.moves qs w.point w.at),
      λ qs e.
          let w = rw (c.in-Some.is, c.in-Down.is) at (c.loop-turn.invariant.3 qs e) in
          next w (p.moves qs w.point w.at),
    )

pub loop-turn-preserved : goal.loop-turn-preserved
loop-turn-preserved g c =
    let p = c.in_ok-turn-in-Up.ensures in (
      p.capacity ∙ c.loop-turn.invariant.0,
      p.names ∙ c.loop-turn.invariant.1,
      λ n u qs e d.
          let w = rw (c.in-Some.is, c.in-Up.is) at (c.loop-turn.invariant.2 n u qs e d) in
          next w (p.moves qs w.point w.at),
      λ qs e.
          let w = rw (c.in-Some.is, c.in-Up.is) at (c.loop-turn.invariant.3 qs e) in
          next w (p.moves qs w.point w.at),
    )

pub loop-turn-smaller-in_ok-turn-in-Down : goal.loop-turn-smaller-in_ok-turn-in-Down
loop-turn-smaller-in_ok-turn-in-Down g c =
    rw (c.in-Some.is, c.in-Down.is)
    (elim c.requires.ahead [
      | inl (u, qs, e) ↦
          (let w = rw (c.in-Some.is, c.in-Down.is) at (c.loop-turn.invariant.2 (depth u) u qs e (omega arith)) in
          falls (omega arith) (c.in_ok-turn-in-Down.ensures.moves qs w.point w.at))
      | inr (qs, e) ↦
          (let w = rw (c.in-Some.is, c.in-Down.is) at (c.loop-turn.invariant.3 qs e) in
          falls (omega arith) (c.in_ok-turn-in-Down.ensures.moves qs w.point w.at))
    ])

pub loop-turn-smaller : goal.loop-turn-smaller
loop-turn-smaller g c =
    rw (c.in-Some.is, c.in-Up.is)
    (elim c.requires.ahead [
      | inl (u, qs, e) ↦
          (let w = rw (c.in-Some.is, c.in-Up.is) at (c.loop-turn.invariant.2 (depth u) u qs e (omega arith)) in
          falls (omega arith) (c.in_ok-turn-in-Up.ensures.moves qs w.point w.at))
      | inr (qs, e) ↦
          (let w = rw (c.in-Some.is, c.in-Up.is) at (c.loop-turn.invariant.3 qs e) in
          falls (omega arith) (c.in_ok-turn-in-Up.ensures.moves qs w.point w.at))
    ])

pub returns-in_err-turn-in-Down-clause-cases : goal.returns-in_err-turn-in-Down-clause-cases
returns-in_err-turn-in-Down-clause-cases g c = λ n u qs e d.
    let w = rw (c.in-Some.is, c.in-Down.is) at (c.loop-turn.invariant.2 n u qs e d) in
    refused _ c.from_residual.result c.from_residual.ensures.0
    (rw (c.loop-turn.invariant.0, c.loop-turn.invariant.1, c.new-pending.ensures.empty, c.new-names.ensures.empty) at (stuck w (c.in_err-turn-in-Down.ensures.moves qs w.point w.at)))

pub returns-in_err-turn-in-Up-clause-cases : goal.returns-in_err-turn-in-Up-clause-cases
returns-in_err-turn-in-Up-clause-cases g c = λ n u qs e d.
    let w = rw (c.in-Some.is, c.in-Up.is) at (c.loop-turn.invariant.2 n u qs e d) in
    refused _ c.from_residual-in_err-turn-in-Up.result c.from_residual-in_err-turn-in-Up.ensures.0
    (rw (c.loop-turn.invariant.0, c.loop-turn.invariant.1, c.new-pending.ensures.empty, c.new-names.ensures.empty) at (stuck w (c.in_err-turn-in-Up.ensures.moves qs w.point w.at)))

pub returns-in-End-clause-cases : goal.returns-in-End-clause-cases
returns-in-End-clause-cases g c = λ n u qs e d.
    term_read (rw (c.in-Some.is, c.in-End.is) at (c.loop-turn.invariant.2 n u qs e d))

pub returns-clause-cases : goal.returns-clause-cases
returns-clause-cases g c = λ n u qs e d. rw c.in_default.is at (c.loop-turn.invariant.2 n u qs e d)
