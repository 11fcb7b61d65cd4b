use Rattle.std.proofs.Common.{[], refl, inr, le_refl, arith}
use Rattle.std.proofs.lemmas.Result.{err_from_is_err_and}
use Rattle.store.proofs.Growth.{grows_on, grows-more}
use Rattle.hol.proofs.Steps.{steps_sound}
use Rattle.workspace.specs.Refusals.{unserved, served}
use Rattle.theory.specs.Grounds.{grounded_kept}
use Rattle.workspace.proofs.Serving.{refused, no_room, lacks_more}
use Rattle.kernel.proofs.Giving.{priced}
use Rattle.hol.specs.Kernel.{s_refl}
use Rattle.typing.specs.Built.{types_built}
use Rattle.kernel.proofs.Fits.{refl_fits}
use Rattle.kernel.proofs.equality.refl.Goals as goal

pub returns-in_err-a : goal.returns-in_err-a
returns-in_err-a g c th u hk ht =
    let (y, is, same) = err_from_is_err_and c.from_residual.result c.from_residual.ensures.1 in
    rw (is, same) (refused _ (c.in_err-a.ensures th u hk ht) (lacks_more (omega arith) (omega arith)) (λ k. k) (λ e. rw e refl))

pub returns-in_err-concl : goal.returns-in_err-concl
returns-in_err-concl g c th u hk ht = elim (c.in_ok-a.ensures th u hk ht) [
  | served a e m ↦
      let k = m.grows.keeps in
      let o = refl_fits th u e in
      let d = c.in_err-concl.ensures _ _ _ (grounded_kept k c.requires.ground) m.stands (k.term _ _ ht) (k.term _ _ ht) in
      rw (no_room c.from_residual-in_err-concl.result c.from_residual-in_err-concl.ensures.1)
      (unserved (inr (omega (arith, d, m.grows.cost, priced (types_built th [] u) _ o (le_refl _)))))
]

pub returns : goal.returns
returns g c th u hk ht = elim (c.in_ok-a.ensures th u hk ht) [
  | served a e m ↦
      let k = m.grows.keeps in
      let o = refl_fits th u e in
      let d = c.in_ok-concl.ensures _ _ _ (grounded_kept k c.requires.ground) m.stands (k.term _ _ ht) (k.term _ _ ht) in
      let gr = grows_on m.grows d.grows in
      served _ o (record {
        stands = record { hyps = gr.keeps.terms _ _ c.empty-hyps.ensures.terms; concl = d.stands };
        grows = grows-more (omega arith) gr;
        derived = λ wf all. steps_sound th [] (s_refl u) _ wf all o;
      })
]
