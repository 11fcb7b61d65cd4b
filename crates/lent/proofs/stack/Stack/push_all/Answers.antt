use Rattle.std.proofs.Common.{◌≡◌, arith, refl, length, ap, ◌+◌, ◌-◌}
use Rattle.lent.specs.Piles.{pile_of}
use Rattle.lent.proofs.Words.{pushed}
use Rattle.lent.proofs.stack.Stack.push_all.Goals as goal

pub returns-clause-cases : goal.returns-clause-cases
unfolding pile_of
returns-clause-cases c =
    let s = c.args.self.now in
    let e : s.len + length c.args.words.now - s.len ≡ length c.args.words.now = omega arith in
    let p = pushed s.words.now c.args.words.now s.len _ s.words.ghost_name s.fits refl (omega (arith, s.fits, c.if-words-self.false)) in
    rw (e, c.copy_from_slice.ensures.after) (ap (λ o. o.held) p, ap (λ o. o.capacity) p, refl)
