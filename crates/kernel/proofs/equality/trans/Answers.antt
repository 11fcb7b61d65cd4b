use Rattle.std.proofs.Common.{[], ◌∷◌, sym, refl, ◌∙◌, inr, le_refl, arith}
use Rattle.store.proofs.Growth.{grows_same, grows_on, grows-more}
use Rattle.hol.specs.Kernel.{sides, s_trans}
use Rattle.hol.proofs.Steps.{steps_sound}
use Rattle.workspace.specs.Refusals.{nothing, unserved, served}
use Rattle.theory.specs.Grounds.{grounded_kept}
use Rattle.workspace.proofs.Serving.{misfit, no_room, lacks_one, lacks_after}
use Rattle.kernel.proofs.Shapes.{there, absent}
use Rattle.kernel.proofs.Fits.{trans_fits}
use Rattle.kernel.proofs.Giving.{priced}
use Rattle.kernel.proofs.equality.trans.Goals as goal

pub returns-in_err-left : goal.returns-in_err-left
returns-in_err-left g c th p q hp hq =
    let m = c.in_err-left.ensures in
    let e = absent _ (sides p.concl) (rw m.ok_part at c.equation.ensures p.concl hp.concl) in
    rw (misfit c.from_residual.result c.from_residual.ensures.1 m.value m.ok_part) (nothing grows_same (rw e refl))

pub returns-in_err-right : goal.returns-in_err-right
returns-in_err-right g c th p q hp hq =
    let m = c.in_err-right.ensures in
    let l = there _ (sides p.concl) (rw c.in_ok-left.ensures.ok_part at c.equation.ensures p.concl hp.concl) in
    let e = absent _ (sides q.concl) (rw m.ok_part at c.equation-2.ensures q.concl hq.concl) in
    rw (misfit c.from_residual-in_err-right.result c.from_residual-in_err-right.ensures.1 m.value m.ok_part)
    (nothing grows_same (rw l.is (rw e refl)))

pub returns-then-not-meets : goal.returns-then-not-meets
returns-then-not-meets g c th p q hp hq =
    let l = there _ (sides p.concl) (rw c.in_ok-left.ensures.ok_part at c.equation.ensures p.concl hp.concl) in
    let r = there _ (sides q.concl) (rw c.in_ok-right.ensures.ok_part at c.equation-2.ensures q.concl hq.concl) in
    let e = sym (c.meets.ensures.same l.what r.what l.stands r.stands) ∙ c.if-not-meets.true in
    nothing c.meets.ensures.stays.grows (rw l.is (rw r.is (rw e refl)))

pub union-requires : goal.union-requires
union-requires g c =
    let k = c.meets.ensures.stays.grows.keeps in
    record { first = (_, k.terms _ _ c.requires.first.1.hyps); second = (_, k.terms _ _ c.requires.second.1.hyps) }

pub returns-in_err-hyps : goal.returns-in_err-hyps
returns-in_err-hyps g c th p q hp hq =
    let l = there _ (sides p.concl) (rw c.in_ok-left.ensures.ok_part at c.equation.ensures p.concl hp.concl) in
    let r = there _ (sides q.concl) (rw c.in_ok-right.ensures.ok_part at c.equation-2.ensures q.concl hq.concl) in
    let t = sym (c.meets.ensures.same l.what r.what l.stands r.stands) ∙ c.if-not-meets.false in
    let k = c.meets.ensures.stays in
    let e = trans_fits p q l.what r.what l.is r.is t in
    let u = c.in_err-hyps.ensures p.hyps q.hyps (k.grows.keeps.terms _ _ hp.hyps) (k.grows.keeps.terms _ _ hq.hyps) in
    rw (no_room c.from_residual-in_err-hyps.result c.from_residual-in_err-hyps.ensures.1)
    (unserved (lacks_after _ _ _ _ _ _ _ _ refl (omega arith) (omega (arith, k.left, priced 0 _ e (le_refl _))) (lacks_one u)))

pub returns-in_err-concl : goal.returns-in_err-concl
returns-in_err-concl g c th p q hp hq =
    let l = there _ (sides p.concl) (rw c.in_ok-left.ensures.ok_part at c.equation.ensures p.concl hp.concl) in
    let r = there _ (sides q.concl) (rw c.in_ok-right.ensures.ok_part at c.equation-2.ensures q.concl hq.concl) in
    let t = sym (c.meets.ensures.same l.what r.what l.stands r.stands) ∙ c.if-not-meets.false in
    let k = c.meets.ensures.stays in
    let e = trans_fits p q l.what r.what l.is r.is t in
    let m = c.in_ok-hyps.ensures p.hyps q.hyps (k.grows.keeps.terms _ _ hp.hyps) (k.grows.keeps.terms _ _ hq.hyps) in
    let gr = grows_on k.grows m.grows in
    let u = c.in_err-concl.ensures _ _ _ (grounded_kept gr.keeps c.requires.ground) (gr.keeps.typ _ _ l.stands.ty)
    (gr.keeps.term _ _ l.stands.left) (gr.keeps.term _ _ r.stands.right) in
    rw (no_room c.from_residual-in_err-concl.result c.from_residual-in_err-concl.ensures.1)
    (unserved (inr (omega (arith, u, gr.cost, priced 0 _ e (le_refl _)))))

pub returns : goal.returns
returns g c th p q hp hq =
    let l = there _ (sides p.concl) (rw c.in_ok-left.ensures.ok_part at c.equation.ensures p.concl hp.concl) in
    let r = there _ (sides q.concl) (rw c.in_ok-right.ensures.ok_part at c.equation-2.ensures q.concl hq.concl) in
    let t = sym (c.meets.ensures.same l.what r.what l.stands r.stands) ∙ c.if-not-meets.false in
    let k = c.meets.ensures.stays in
    let e = trans_fits p q l.what r.what l.is r.is t in
    let m = c.in_ok-hyps.ensures p.hyps q.hyps (k.grows.keeps.terms _ _ hp.hyps) (k.grows.keeps.terms _ _ hq.hyps) in
    let gr = grows_on k.grows m.grows in
    let d = c.in_ok-concl.ensures _ _ _ (grounded_kept gr.keeps c.requires.ground) (gr.keeps.typ _ _ l.stands.ty)
    (gr.keeps.term _ _ l.stands.left) (gr.keeps.term _ _ r.stands.right) in
    served _ e (record {
      stands = record { hyps = d.grows.keeps.terms _ _ m.stands; concl = d.stands };
      grows = grows-more (omega arith) (grows_on gr d.grows);
      derived = λ wf all. steps_sound th (p ∷ q ∷ []) (s_trans 0 1) _ wf all e;
    })
