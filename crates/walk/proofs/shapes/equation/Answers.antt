use Rattle.hol.specs.Kernel.{app_of}
use Rattle.walk.specs.Parts.{IsApplication}
use Rattle.walk.proofs.Recognised.{like_some}
use Rattle.walk.proofs.shapes.equation.Goals as goal

pub application-requires-2 : goal.application-requires-2
application-requires-2 g c =
    let (u, e) = c.requires in
    let (a, r) = like_some (IsApplication (g.S.Store.state c.args.store.now).contents) (app_of u)
    c.in_ok-whole.whole (c.in_ok-whole.ensures u e) in
    (a.func, r.func)

pub equality-requires : goal.equality-requires
equality-requires g c =
    let (u, e) = c.requires in
    let R = IsApplication (g.S.Store.state c.args.store.now).contents in
    let (a, r) = like_some R (app_of u) c.in_ok-whole.whole (c.in_ok-whole.ensures u e) in
    let (b, s) = like_some R (app_of a.func) c.in_ok-left.left (c.in_ok-left.ensures a.func r.func)
    in
    (b.func, s.func)
