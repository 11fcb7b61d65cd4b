use Rattle.std.proofs.Common.{sym, ap, ◌∙◌}
use Rattle.hol.specs.Kernel.{eq_of}
use Rattle.walk.specs.Parts.{IsType}
use Rattle.walk.proofs.Recognised.{eq_of-const, like_taken}
use Rattle.walk.proofs.shapes.equality.Goals as goal

pub returns-in-Constant : goal.returns-in-Constant
returns-in-Constant g c u e =
    let v = c.in-Constant.ensures u e in
    like_taken (IsType (g.S.Store.state c.args.store.now).contents) (eq_of u) _ _ c.only_type.result
    (ap eq_of v.is ∙ eq_of-const v.name v.args)
    (sym c.if-is_named.true ∙ c.is_named.ensures v.name v.name_is)
    (c.only_type.ensures v.args v.args_are)
