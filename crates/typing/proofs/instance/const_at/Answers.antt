use Rattle.std.proofs.Common.{sym, ◌∙◌, inl}
use Rattle.store.proofs.Growth.{stays_on}
use Rattle.lent.proofs.Refused.{refused}
use Rattle.typing.proofs.OkLists.{answers_for}
use Rattle.typing.proofs.Instancing.{const-room, const_tight, const_typed}
use Rattle.typing.proofs.instance.const_at.Goals as goal

pub instance-requires-clause-typ : goal.instance-requires-clause-typ
instance-requires-clause-typ g c =
    let (th, k) = c.requires.theory in
    let (w, hw) = c.requires.word in
    let s = c.const_type.ensures.stays.grows.keeps in
    let f = c.in-Some.ensures.found th w k hw in
    (f.what, c.in_ok-ok_types.ensures.stays.grows.keeps.typ _ f.what (s.typ _ f.what f.stands))

pub returns-in_err-ok_types : goal.returns-in_err-ok_types
returns-in_err-ok_types g c th w bs k hw h =
    let s = c.const_type.ensures.stays in
    let f = c.in-Some.ensures.found th w k hw in
    let know = (g.T.Signature.meaning c.args.theory.now).kept _ _ th s.grows.keeps k in
    let l = c.in_err-ok_types.ensures.cases th bs know (s.grows.keeps.types _ bs h) in
    refused _ c.from_residual.result c.from_residual.ensures.0 (inl (inl (const-room th w f.what f.is bs _ l)))

pub returns : goal.returns
returns g c th w bs k hw h =
    let s = c.const_type.ensures.stays in
    let o = c.in_ok-ok_types.ensures in
    let f = c.in-Some.ensures.found th w k hw in
    let hs = s.grows.keeps.types _ bs h in
    let know = (g.T.Signature.meaning c.args.theory.now).kept _ _ th s.grows.keeps k in
    let ok = sym c.if-not-branch.false ∙ o.cases th bs know hs in
    let st = stays_on s o.stays in
    let t = o.stays.grows.keeps in
    answers_for c.instance.result (λ l. const_tight th w f.what f.is bs st.left ok (rw c.ok_types.auto.words at l)) (λ x q. const_typed th w f.what f.is bs ok st q)
    (c.instance.ensures f.what bs (t.typ _ f.what (s.grows.keeps.typ _ f.what f.stands)) (t.types _ bs hs))
