use Rattle.std.proofs.Common.{[], ◌∷◌, refl, le_refl, arith}
use Rattle.std.proofs.lemmas.Result.{err_from_is_err_and}
use Rattle.store.proofs.Growth.{grows_same, grows_on, grows-more}
use Rattle.hol.specs.Theory.{ok_ty}
use Rattle.hol.specs.Kernel.{sides, s_lam}
use Rattle.hol.proofs.Tools.{both}
use Rattle.hol.proofs.Steps.{steps_sound}
use Rattle.workspace.specs.Refusals.{nothing, unserved, served}
use Rattle.theory.specs.Grounds.{grounded_kept}
use Rattle.workspace.proofs.Serving.{misfit, unfit, no_room, lacks_more, lacks_after, passed_of}
use Rattle.kernel.proofs.Shapes.{there, absent}
use Rattle.kernel.proofs.Fits.{lam-fits}
use Rattle.kernel.proofs.Giving.{equation_kept, priced, sides_nodes}
use Rattle.kernel.proofs.binding.lam.Goals as goal

pub returns-in_err-sides : goal.returns-in_err-sides
returns-in_err-sides g c th w b p hk hx ha hp =
    let m = c.in_err-sides.ensures in
    let e = absent _ (sides p.concl) (rw m.ok_part at c.equation.ensures p.concl hp.concl) in
    rw (misfit c.from_residual.result c.from_residual.ensures.1 m.value m.ok_part) (nothing grows_same (rw e refl))

pub may_bind-requires : goal.may_bind-requires
may_bind-requires g c =
    let h = c.requires in
    record { theory = h.theory; name = h.name; typ = h.typ; list = (_, h.premise.1.hyps) }

pub returns-in_err-may_bind : goal.returns-in_err-may_bind
returns-in_err-may_bind g c th w b p hk hx ha hp =
    let a = c.in_err-may_bind.ensures in
    let l = there _ (sides p.concl) (rw c.in_ok-sides.ensures.ok_part at c.equation.ensures p.concl hp.concl) in
    let (y, is, same) = err_from_is_err_and c.from_residual-in_err-may_bind.result c.from_residual-in_err-may_bind.ensures.1 in
    rw (is, same)
    (unfit _ (a.cases th w b p.hyps hk hx ha hp.hyps) (lacks_more (omega arith) (omega arith)) a.stays.grows (λ e. rw l.is (rw e refl)))

pub bound-requires : goal.bound-requires
bound-requires g c =
    let h = c.requires in
    let k = c.in_ok-may_bind.ensures.stays.grows.keeps in
    let l = there _ (sides h.premise.0.concl) (rw c.in_ok-sides.ensures.ok_part at c.equation.ensures _ h.premise.1.concl) in
    record {
      ground = grounded_kept k h.ground;
      name = (_, k.word _ _ h.name.1);
      typ = (_, k.typ _ _ h.typ.1);
      sides = (_, equation_kept k l.stands);
    }

pub returns-in_err-concl : goal.returns-in_err-concl
returns-in_err-concl g c th w b p hk hx ha hp =
    let a = c.in_ok-may_bind.ensures in
    let k = a.stays.grows.keeps in
    let l = there _ (sides p.concl) (rw c.in_ok-sides.ensures.ok_part at c.equation.ensures p.concl hp.concl) in
    let t = both (ok_ty th b) _ (passed_of (a.cases th w b p.hyps hk hx ha hp.hyps)) in
    let e = lam-fits th w b p l.what l.is t.0 t.1 in
    let u = c.in_err-concl.ensures w b l.what (k.word _ _ hx) (k.typ _ _ ha) (equation_kept k l.stands) in
    rw (no_room c.from_residual-in_err-concl.result c.from_residual-in_err-concl.ensures.1)
    (unserved (lacks_after _ _ _ _ _ _ _ _ (omega arith) (omega (arith, sides_nodes p.concl l.what l.is))
    (omega (arith, a.stays.left, priced 0 _ e (le_refl _))) u))

pub returns : goal.returns
returns g c th w b p hk hx ha hp =
    let a = c.in_ok-may_bind.ensures in
    let k = a.stays.grows.keeps in
    let l = there _ (sides p.concl) (rw c.in_ok-sides.ensures.ok_part at c.equation.ensures p.concl hp.concl) in
    let t = both (ok_ty th b) _ (passed_of (a.cases th w b p.hyps hk hx ha hp.hyps)) in
    let e = lam-fits th w b p l.what l.is t.0 t.1 in
    let d = c.in_ok-concl.ensures w b l.what (k.word _ _ hx) (k.typ _ _ ha) (equation_kept k l.stands) in
    let gr = grows_on a.stays.grows d.grows in
    served _ e (record {
      stands = record { hyps = gr.keeps.terms _ _ hp.hyps; concl = d.stands };
      grows = grows-more (omega arith) gr;
      derived = λ wf all. steps_sound th (p ∷ []) (s_lam w b 0) _ wf all e;
    })
