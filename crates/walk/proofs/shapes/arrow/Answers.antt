use Rattle.std.proofs.Common.{sym, ap, ◌∙◌}
use Rattle.hol.specs.Syntax.{arrow}
use Rattle.walk.specs.Parts.{IsFunctionType}
use Rattle.walk.proofs.Recognised.{arrow_named, like_taken}
use Rattle.walk.proofs.shapes.arrow.Goals as goal

pub returns-in-Named : goal.returns-in-Named
returns-in-Named g c b e =
    let v = c.in-Named.ensures b e in
    like_taken (IsFunctionType (g.S.Store.state c.args.store.now).contents) (arrow b) _ _ c.two_types.result
    (ap arrow v.is ∙ arrow_named v.name v.args)
    (sym c.if-is_named.true ∙ c.is_named.ensures v.name v.name_is)
    (c.two_types.ensures v.args v.args_are)
