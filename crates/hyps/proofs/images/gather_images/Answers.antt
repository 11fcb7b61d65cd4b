use Rattle.lent.specs.Piles.{pile_of}
use Rattle.std.proofs.Common.{◌-◌, length, ap, arith, inl, inr, refl, ◌∙◌}
use Rattle.std.proofs.lemmas.Result.{err_from_is_err_and}
use Rattle.hol.specs.Kernel.{in_hyps}
use borrow.Rule.Slice.PartMut.{same_len_mid}
use Rattle.lent.proofs.Words.{pile_lent, stack-spare}
use Rattle.hyps.proofs.Gathering.{taken, next, ended}
use Rattle.hyps.proofs.Imaging.{no_nodes, no_words}
use Rattle.hyps.proofs.images.gather_images.Goals as goal

pub put_image-requires : goal.put_image-requires
put_image-requires g c =
    let (h, d) = c.requires.map in
    let (us, st) = c.requires.stand in
    let (vs, e) = c.requires.list in
    let k = c.loop-t.invariant.1 h us vs d st e in
    let v = taken in_hyps h k c.in-Some.ensures.cases.0 in
    record {
      map = (h, g.met.M.TermMap.keeps _ h _ _ d k.grows.keeps);
      term = (v.first, v.first_is);
      list = (k.list, k.list_is);
    }

pub returns-in_err-list : goal.returns-in_err-list
returns-in_err-list g c h us vs d st e =
    let (same, at) = c.loop-t.invariant in
    let q = c.in-Some.ensures.cases in
    let k = at h us vs d st e in
    let v = taken in_hyps h k q.0 in
    let does = g.met.M.TermMap.keeps _ h _ _ d k.grows.keeps in
    let w = err_from_is_err_and c.from_residual.result c.from_residual.ensures.1 in
    let free = stack-spare c.pop.new.self in
    rw w.1
    (elim (c.in_err-list.ensures h v.first k.list does v.first_is k.list_is) [
      | inl x ↦ inl (rw (← same, ← q.1) (no_words h k q.0 (pile_of c.pop.new.self) refl (rw free at x)))
      | inr x ↦ inr (no_nodes h k q.0 x)
    ])

pub loop-t-preserved : goal.loop-t-preserved
unfolding pile_of
loop-t-preserved g c =
    let (same, at) = c.loop-t.invariant in
    let q = c.in-Some.ensures.cases in
    let s = c.pop.new.self in
    let k = length s.words.now - s.len in (
      same_len_mid s.len k s.words.now c.put_image.new.words c.put_image.auto.words ∙ (q.1 ∙ same),
      λ h us vs d st e.
          let k = at h us vs d st e in
          let v = taken in_hyps h k q.0 in
          let does = g.met.M.TermMap.keeps _ h _ _ d k.grows.keeps in
          rw (pile_lent s.words.now c.put_image.new.words s.len _ (pile_of s) s.fits refl)
          (next in_hyps h k q.0 (c.in_ok-list.ensures h v.first k.list does v.first_is k.list_is)),
    )

pub loop-t-smaller : goal.loop-t-smaller
unfolding pile_of
loop-t-smaller g c =
    let s = c.pop.new.self in
    let e = ap length c.in-Some.ensures.cases.0 in
    rw (pile_lent s.words.now c.put_image.new.words s.len _ (pile_of s) s.fits refl) (omega (arith, e))

pub returns : goal.returns
returns g c h us vs d st e = ended in_hyps h (c.loop-t.invariant.1 h us vs d st e) c.in_default.ensures.cases.1
