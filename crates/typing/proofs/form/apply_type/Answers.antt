use Rattle.names.proofs.Compared.{types_compared}
use Rattle.typing.proofs.Forms.{an_arrow, tested}
use Rattle.typing.proofs.form.apply_type.Goals as goal

pub returns-clause-cases : goal.returns-clause-cases
returns-clause-cases g c a b ha hb =
    let s = c.same_type.ensures in
    let k = (g.S.Store.state c.args.store.now).contents in
    let f = an_arrow k a c.in_ok-parts.parts (c.in_ok-parts.ensures a ha) in
    rw c.then_some.ensures
    (tested k (g.S.Store.state c.same_type.new.self).contents a b c.in_ok-parts.parts f c.same_type.result
    (types_compared f.stand.dom hb s.sound s.complete) (s.stays.grows.keeps.typ _ f.parts.cod f.stand.cod))
