use Rattle.lent.specs.Piles.{pile_of}
use Rattle.std.proofs.Common.{sym, ◌∙◌}
use Rattle.walk.proofs.NameLists.{put-known, put_all, adds_pushed}
use Rattle.walk.proofs.listed.insert.Goals as goal

pub returns-then-among_held-clause-cases : goal.returns-then-among_held-clause-cases
returns-then-among_held-clause-cases g c w ws hw h =
    let a = c.among_held.ensures in
    put-known a.stays.grows.keeps w (pile_of c.args.names.now).held h (sym (a.found w ws hw h) ∙ c.if-among_held.true)

pub returns-clause-adds : goal.returns-clause-adds
returns-clause-adds g c = adds_pushed c.args.name (pile_of c.args.names.now) (pile_of c.push.new.self) c.push.result c.push.ensures.cases

pub returns-clause-cases : goal.returns-clause-cases
returns-clause-cases g c w ws hw h =
    let a = c.among_held.ensures in
    put_all a.stays.grows.keeps w (pile_of c.args.names.now) (pile_of c.push.new.self) h c.args.name hw (sym (a.found w ws hw h) ∙ c.if-among_held.false)
    c.push.result c.push.ensures.cases
