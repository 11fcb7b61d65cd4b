use Rattle.std.proofs.Common.{[], ◌∷◌, sym, refl, ◌∙◌, inr, le_refl, arith}
use Rattle.store.proofs.Growth.{grows_same, grows_on, grows-more}
use Rattle.names.proofs.Compared.{types_compared}
use Rattle.hol.specs.Syntax.{arrow}
use Rattle.hol.specs.Kernel.{sides, s_use}
use Rattle.hol.proofs.Steps.{steps_sound}
use Rattle.workspace.specs.Refusals.{nothing, unserved, served}
use Rattle.theory.specs.Grounds.{grounded_kept}
use Rattle.workspace.proofs.Serving.{misfit, no_room, lacks_one, lacks_after}
use Rattle.kernel.proofs.Shapes.{there, absent}
use Rattle.kernel.proofs.Fits.{use_fits}
use Rattle.kernel.proofs.Giving.{equation_kept, priced}
use Rattle.kernel.proofs.equality.use_rule.Goals as goal

pub returns-in_err-fs : goal.returns-in_err-fs
returns-in_err-fs g c th p q hp hq =
    let m = c.in_err-fs.ensures in
    let e = absent _ (sides p.concl) (rw m.ok_part at c.equation.ensures p.concl hp.concl) in
    rw (misfit c.from_residual.result c.from_residual.ensures.1 m.value m.ok_part) (nothing grows_same (rw e refl))

pub returns-in_err-xs : goal.returns-in_err-xs
returns-in_err-xs g c th p q hp hq =
    let m = c.in_err-xs.ensures in
    let l = there _ (sides p.concl) (rw c.in_ok-fs.ensures.ok_part at c.equation.ensures p.concl hp.concl) in
    let e = absent _ (sides q.concl) (rw m.ok_part at c.equation-2.ensures q.concl hq.concl) in
    rw (misfit c.from_residual-in_err-xs.result c.from_residual-in_err-xs.ensures.1 m.value m.ok_part)
    (nothing grows_same (rw l.is (rw e refl)))

pub arrow-requires : goal.arrow-requires
arrow-requires g c =
    let l = there _ (sides c.requires.first.0.concl) (rw c.in_ok-fs.ensures.ok_part at c.equation.ensures _ c.requires.first.1.concl) in
    (_, l.stands.ty)

pub returns-in_err-ty : goal.returns-in_err-ty
returns-in_err-ty g c th p q hp hq =
    let m = c.in_err-ty.ensures in
    let l = there _ (sides p.concl) (rw c.in_ok-fs.ensures.ok_part at c.equation.ensures p.concl hp.concl) in
    let r = there _ (sides q.concl) (rw c.in_ok-xs.ensures.ok_part at c.equation-2.ensures q.concl hq.concl) in
    let e = absent _ (arrow l.what.ty) (rw m.ok_part at c.arrow.ensures _ l.stands.ty) in
    rw (misfit c.from_residual-in_err-ty.result c.from_residual-in_err-ty.ensures.1 m.value m.ok_part)
    (nothing grows_same (rw l.is (rw r.is (rw e refl))))

pub returns-then-not-same_type : goal.returns-then-not-same_type
returns-then-not-same_type g c th p q hp hq =
    let a = c.same_type.ensures in
    let l = there _ (sides p.concl) (rw c.in_ok-fs.ensures.ok_part at c.equation.ensures p.concl hp.concl) in
    let r = there _ (sides q.concl) (rw c.in_ok-xs.ensures.ok_part at c.equation-2.ensures q.concl hq.concl) in
    let f = there _ (arrow l.what.ty) (rw c.in_ok-ty.ensures.ok_part at c.arrow.ensures _ l.stands.ty) in
    let e = sym (types_compared f.stands.dom r.stands.ty a.sound a.complete) ∙ c.if-not-same_type.true in
    nothing a.stays.grows (rw l.is (rw r.is (rw f.is (rw e refl))))

pub union-requires : goal.union-requires
union-requires g c =
    let k = c.same_type.ensures.stays.grows.keeps in
    record { first = (_, k.terms _ _ c.requires.first.1.hyps); second = (_, k.terms _ _ c.requires.second.1.hyps) }

pub returns-in_err-hyps : goal.returns-in_err-hyps
returns-in_err-hyps g c th p q hp hq =
    let a = c.same_type.ensures in
    let k = a.stays.grows.keeps in
    let l = there _ (sides p.concl) (rw c.in_ok-fs.ensures.ok_part at c.equation.ensures p.concl hp.concl) in
    let r = there _ (sides q.concl) (rw c.in_ok-xs.ensures.ok_part at c.equation-2.ensures q.concl hq.concl) in
    let f = there _ (arrow l.what.ty) (rw c.in_ok-ty.ensures.ok_part at c.arrow.ensures _ l.stands.ty) in
    let t = sym (types_compared f.stands.dom r.stands.ty a.sound a.complete) ∙ c.if-not-same_type.false in
    let e = use_fits p q l.what r.what f.what l.is r.is f.is t in
    let u = c.in_err-hyps.ensures p.hyps q.hyps (k.terms _ _ hp.hyps) (k.terms _ _ hq.hyps) in
    rw (no_room c.from_residual-in_err-hyps.result c.from_residual-in_err-hyps.ensures.1)
    (unserved (lacks_after _ _ _ _ _ _ _ _ refl (omega arith) (omega (arith, a.stays.left, priced 0 _ e (le_refl _))) (lacks_one u)))

pub returns-in_err-concl : goal.returns-in_err-concl
returns-in_err-concl g c th p q hp hq =
    let a = c.same_type.ensures in
    let k = a.stays.grows.keeps in
    let l = there _ (sides p.concl) (rw c.in_ok-fs.ensures.ok_part at c.equation.ensures p.concl hp.concl) in
    let r = there _ (sides q.concl) (rw c.in_ok-xs.ensures.ok_part at c.equation-2.ensures q.concl hq.concl) in
    let f = there _ (arrow l.what.ty) (rw c.in_ok-ty.ensures.ok_part at c.arrow.ensures _ l.stands.ty) in
    let t = sym (types_compared f.stands.dom r.stands.ty a.sound a.complete) ∙ c.if-not-same_type.false in
    let e = use_fits p q l.what r.what f.what l.is r.is f.is t in
    let m = c.in_ok-hyps.ensures p.hyps q.hyps (k.terms _ _ hp.hyps) (k.terms _ _ hq.hyps) in
    let gr = grows_on a.stays.grows m.grows in
    let h = gr.keeps in
    let u = c.in_err-concl.ensures f.what.cod l.what r.what (grounded_kept h c.requires.ground) (h.typ _ _ f.stands.cod)
    (equation_kept h l.stands) (equation_kept h r.stands) in
    rw (no_room c.from_residual-in_err-concl.result c.from_residual-in_err-concl.ensures.1)
    (unserved (inr (omega (arith, gr.cost, u, priced 0 _ e (le_refl _)))))

pub returns : goal.returns
returns g c th p q hp hq =
    let a = c.same_type.ensures in
    let k = a.stays.grows.keeps in
    let l = there _ (sides p.concl) (rw c.in_ok-fs.ensures.ok_part at c.equation.ensures p.concl hp.concl) in
    let r = there _ (sides q.concl) (rw c.in_ok-xs.ensures.ok_part at c.equation-2.ensures q.concl hq.concl) in
    let f = there _ (arrow l.what.ty) (rw c.in_ok-ty.ensures.ok_part at c.arrow.ensures _ l.stands.ty) in
    let t = sym (types_compared f.stands.dom r.stands.ty a.sound a.complete) ∙ c.if-not-same_type.false in
    let e = use_fits p q l.what r.what f.what l.is r.is f.is t in
    let m = c.in_ok-hyps.ensures p.hyps q.hyps (k.terms _ _ hp.hyps) (k.terms _ _ hq.hyps) in
    let gr = grows_on a.stays.grows m.grows in
    let h = gr.keeps in
    let d = c.in_ok-concl.ensures f.what.cod l.what r.what (grounded_kept h c.requires.ground) (h.typ _ _ f.stands.cod)
    (equation_kept h l.stands) (equation_kept h r.stands) in
    served _ e (record {
      stands = record { hyps = d.grows.keeps.terms _ _ m.stands; concl = d.stands };
      grows = grows-more (omega arith) (grows_on gr d.grows);
      derived = λ wf all. steps_sound th (p ∷ q ∷ []) (s_use 0 1) _ wf all e;
    })
