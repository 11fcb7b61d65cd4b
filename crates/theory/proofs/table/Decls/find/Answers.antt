-- A turn of the loop looks at the newest declaration that is left.
use Rattle.std.proofs.Common.{sym, ◌∙◌, ◌-◌, length, arith}
use Rattle.std.proofs.lemmas.List.{length-take-le}
use Rattle.store.proofs.Growth.{stays_on}
use Rattle.theory.proofs.Looking.{last_of, unwanted, compared, on, here, nowhere}
use Rattle.theory.proofs.table.Decls.find.Goals.{else-is_some-via-then-is_some+else-same_name, else-is_some-via-else-is_some}
use Rattle.theory.proofs.table.Decls.find.Goals as goal

pub returns-clause-found : goal.returns-clause-found
returns-clause-found g c wanted th w p k e = nowhere _ wanted w th _ c.in_default.len_below (c.loop-rest.invariant.1 wanted th w p k e)

pub returns-then-same_name-clause-found : goal.returns-then-same_name-clause-found
returns-then-same_name-clause-found g c wanted th w p k e =
    let s = (g.S.Store.state c.args.store.now).contents in
    let ws = c.loop-rest.rest.now in
    let n = c.same_name.ensures in
    let (stays, at, le) = c.loop-rest.invariant in
    let is = sym c.is_some.ensures ∙ c.if-is_some.true in
    let answer = rw c.from.ensures at c.part-found.ensures in
    let t = rw c.if-same_name.true at (compared s wanted w ws c.args.name c.same_name.result stays.grows.keeps e
    (λ d v. sym (p.picks (last_of ws) d c.part-found.result v answer) ∙ is) n.sound n.complete) in
    here s wanted w ws c.in-len4-up.len_at_least (at wanted th w p k e) _ c.part-found.result t is answer

pub loop-rest-preserved : goal.loop-rest-preserved
loop-rest-preserved g c =
    let s = (g.S.Store.state c.args.store.now).contents in
    let ws = c.loop-rest.rest.now in
    let (stays, at, le) = c.loop-rest.invariant in
    let shorter = length-take-le (length ws - 4) ws (omega arith) in
    let answer = rw c.from.ensures at c.part-found.ensures in
    elim c.else-is_some.branch [
      | else-is_some-via-then-is_some+else-same_name v ↦ (
          let n = v.same_name.ensures in
          let is = sym c.is_some.ensures ∙ v.if-is_some.true in (
            rw v.store-is (stays_on stays n.stays),
            λ wanted th w p k e.
                let t = compared s wanted w ws c.args.name v.same_name.result stays.grows.keeps e
                (λ d y. sym (p.picks (last_of ws) d c.part-found.result y answer) ∙ is) n.sound n.complete in
                on s wanted w ws c.in-len4-up.len_at_least (at wanted th w p k e) (rw v.if-same_name.false at t),
            omega arith,
          ))
      | else-is_some-via-else-is_some v ↦ (
          let is = sym c.is_some.ensures ∙ v.if-is_some.false in (
            rw v.store-is stays,
            λ wanted th w p k e.
                on s wanted w ws c.in-len4-up.len_at_least (at wanted th w p k e)
                (unwanted s wanted w ws (λ d y. sym (p.picks (last_of ws) d c.part-found.result y answer) ∙ is)),
            omega arith,
          ))
    ]
