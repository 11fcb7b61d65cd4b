use Rattle.std.proofs.Common.{[], refl, inr, le_refl, arith}
use Rattle.std.proofs.lemmas.Result.{err_from_is_err_and}
use Rattle.store.proofs.Growth.{grows_same, grows_on, grows-more}
use Rattle.hol.specs.Kernel.{s_beta}
use Rattle.hol.proofs.Steps.{steps_sound}
use Rattle.typing.specs.Built.{types_built}
use Rattle.workspace.specs.Refusals.{nothing, unserved, served}
use Rattle.theory.specs.Grounds.{grounded_kept}
use Rattle.workspace.proofs.Serving.{misfit, refused, no_room, lacks_four, lacks_more, lacks_after}
use Rattle.kernel.specs.Redexes.{redex_of}
use Rattle.kernel.proofs.Shapes.{there, absent}
use Rattle.kernel.proofs.Redexes.{beta_misses, redex_fits, body_nodes}
use Rattle.kernel.proofs.Giving.{priced}
use Rattle.kernel.proofs.binding.beta.Goals as goal

pub returns-in_err-parts : goal.returns-in_err-parts
returns-in_err-parts g c th u hk ht =
    let m = c.in_err-parts.ensures in
    let e = absent _ (redex_of u) (rw m.ok_part at c.redex.ensures u ht) in
    rw (misfit c.from_residual.result c.from_residual.ensures.1 m.value m.ok_part)
    (nothing (grows-more (omega arith) grows_same) (beta_misses th u e))

pub returns-in_err-b : goal.returns-in_err-b
returns-in_err-b g c th u hk ht =
    let (y, is, same) = err_from_is_err_and c.from_residual-in_err-b.result c.from_residual-in_err-b.ensures.1 in
    rw (is, same) (refused _ (c.in_err-b.ensures th u hk ht) (lacks_more (omega arith) (omega arith)) (λ k. k) (λ e. rw e refl))

pub open-requires : goal.open-requires
open-requires g c =
    let r = there _ (redex_of c.requires.term.0) (rw c.in_ok-parts.ensures.ok_part at c.redex.ensures _ c.requires.term.1) in
    elim (c.in_ok-b.ensures _ _ c.requires.theory.1 c.requires.term.1) [
      | served a e m ↦ record { term = (_, m.grows.keeps.term _ _ r.stands.arg); stands = (_, m.grows.keeps.term _ _ r.stands.body) }
    ]

pub returns-in_err-right : goal.returns-in_err-right
returns-in_err-right g c th u hk ht =
    let r = there _ (redex_of u) (rw c.in_ok-parts.ensures.ok_part at c.redex.ensures u ht) in
    elim (c.in_ok-b.ensures th u hk ht) [
      | served a e m ↦
          let k = m.grows.keeps in
          let o = redex_fits th u a r.what e r.is in
          let d = c.in_err-right.ensures _ _ (k.term _ _ r.stands.arg) (k.term _ _ r.stands.body) in
          rw (no_room c.from_residual-in_err-right.result c.from_residual-in_err-right.ensures.1)
          (unserved (lacks_after _ _ _ _ _ _ _ _ (omega arith) (omega (arith, body_nodes u r.what r.is))
          (omega (arith, m.grows.cost, priced (types_built th [] u) _ o (le_refl _))) (lacks_four _ d)))
    ]

pub returns-in_err-concl : goal.returns-in_err-concl
returns-in_err-concl g c th u hk ht =
    let r = there _ (redex_of u) (rw c.in_ok-parts.ensures.ok_part at c.redex.ensures u ht) in
    elim (c.in_ok-b.ensures th u hk ht) [
      | served a e m ↦
          let k = m.grows.keeps in
          let o = redex_fits th u a r.what e r.is in
          let n = c.in_ok-right.ensures _ _ (k.term _ _ r.stands.arg) (k.term _ _ r.stands.body) in
          let gr = grows_on m.grows n.grows in
          let d = c.in_err-concl.ensures _ _ _ (grounded_kept gr.keeps c.requires.ground) (n.grows.keeps.typ _ _ m.stands)
          (gr.keeps.term _ _ ht) n.stands in
          rw (no_room c.from_residual-in_err-concl.result c.from_residual-in_err-concl.ensures.1)
          (unserved (inr (omega (arith, d, gr.cost, priced (types_built th [] u) _ o (le_refl _)))))
    ]

pub returns : goal.returns
returns g c th u hk ht =
    let r = there _ (redex_of u) (rw c.in_ok-parts.ensures.ok_part at c.redex.ensures u ht) in
    elim (c.in_ok-b.ensures th u hk ht) [
      | served a e m ↦
          let k = m.grows.keeps in
          let o = redex_fits th u a r.what e r.is in
          let n = c.in_ok-right.ensures _ _ (k.term _ _ r.stands.arg) (k.term _ _ r.stands.body) in
          let gr = grows_on m.grows n.grows in
          let d = c.in_ok-concl.ensures _ _ _ (grounded_kept gr.keeps c.requires.ground) (n.grows.keeps.typ _ _ m.stands)
          (gr.keeps.term _ _ ht) n.stands in
          let all = grows_on gr d.grows in
          served _ o (record {
            stands = record { hyps = all.keeps.terms _ _ c.empty-hyps.ensures.terms; concl = d.stands };
            grows = grows-more (omega arith) all;
            derived = λ wf ds. steps_sound th [] (s_beta u) _ wf ds o;
          })
    ]
