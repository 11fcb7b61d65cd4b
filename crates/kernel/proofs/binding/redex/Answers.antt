use Rattle.hol.specs.Kernel.{app_of, lam_of}
use Rattle.kernel.proofs.Shapes.{there, absent}
use Rattle.kernel.proofs.binding.redex.Goals as goal

pub application-requires : goal.application-requires
application-requires g c = c.requires

pub returns-in_err-whole : goal.returns-in_err-whole
returns-in_err-whole g c = λ u h.
    let e = absent _ (app_of u) (c.in_err-whole.ensures u h) in
    rw c.from_residual.ensures (rw e tt)

pub abstraction-requires : goal.abstraction-requires
abstraction-requires g c =
    let w = there _ (app_of c.requires.0) (c.in_ok-whole.ensures _ c.requires.1) in
    (_, w.stands.func)

pub returns-in_err-function : goal.returns-in_err-function
returns-in_err-function g c = λ u h.
    let w = there _ (app_of u) (c.in_ok-whole.ensures u h) in
    let e = absent _ (lam_of w.what.func) (c.in_err-function.ensures _ w.stands.func) in
    rw c.from_residual-in_err-function.ensures (rw w.is (rw e tt))

pub returns : goal.returns
returns g c = λ u h.
    let w = there _ (app_of u) (c.in_ok-whole.ensures u h) in
    let f = there _ (lam_of w.what.func) (c.in_ok-function.ensures _ w.stands.func) in
    rw w.is (rw f.is (record { body = f.stands.body; arg = w.stands.arg }))
