use Rattle.lent.specs.Piles.{pile_of}
use Rattle.std.proofs.Common.{length, refl, ◌∙◌, inl, inr, arith}
use Rattle.store.proofs.Growth.{stays_same, stays_on}
use Rattle.walk.proofs.Gathering.{gathered_all}
use Rattle.walk.proofs.NameLists.{adds_none, adds_trans, adds_long}
use Rattle.walk.proofs.Passing.{nodes_positive}
use Rattle.walk.proofs.Pending.{begin, newest}
use Rattle.lent.proofs.Refused.{refused}
use Rattle.lent.proofs.Words.{same_words}
use Rattle.walk.proofs.TermTypes.{viewed, own_fits, term_fits, term_turned, term-falls}
use Rattle.walk.proofs.tyvars.gather_term.Goals as goal

pub returns-in_err-push-clause-cases : goal.returns-in_err-push-clause-cases
returns-in_err-push-clause-cases g c u ws hu h =
    let e = rw c.new-pending.ensures.empty at c.in_err-push.ensures.cases.1 in
    refused _ c.from_residual.result c.from_residual.ensures.0 (inl (omega (arith, e, nodes_positive u)))

pub loop-next-init : goal.loop-next-init
loop-next-init g c = (
  rw c.new-pending.ensures.empty at c.in_ok-push.ensures.cases.1,
  stays_same,
  adds_none,
  λ u ws hu h. record {
    gathered = ws;
    names = h;
    pending = begin (rw c.new-pending.ensures.empty at c.in_ok-push.ensures.cases.0) u hu ws refl (length (pile_of c.args.names.now).held) (omega arith);
  },
)

pub term_at-view-requires : goal.term_at-view-requires
term_at-view-requires g c =
    let p = c.requires in
    newest (c.loop-next.invariant.3 p.stands.0 p.names.0 p.stands.1 p.names.1).pending c.in-Some.ensures.cases.0

pub tyvars_node-requires-clause-names : goal.tyvars_node-requires-clause-names
tyvars_node-requires-clause-names g c =
    let p = c.requires in
    let q = c.loop-next.invariant.3 p.stands.0 p.names.0 p.stands.1 p.names.1 in
    (q.gathered, q.names)

pub tyvars_node-requires-clause-stands : goal.tyvars_node-requires-clause-stands
tyvars_node-requires-clause-stands g c =
    let p = c.requires in
    let q = c.loop-next.invariant.3 p.stands.0 p.names.0 p.stands.1 p.names.1 in
    viewed (g.S.Store.state c.loop-next.store).contents (pile_of c.loop-next.names) q c.in-Some.ensures.cases.0 c.term_at-view.result
    c.term_at-view.ensures

pub returns-in_err-tyvars_node-clause-adds : goal.returns-in_err-tyvars_node-clause-adds
returns-in_err-tyvars_node-clause-adds g c = adds_trans c.loop-next.invariant.2 c.in_err-tyvars_node.ensures.adds

pub returns-in_err-tyvars_node-clause-cases : goal.returns-in_err-tyvars_node-clause-cases
returns-in_err-tyvars_node-clause-cases g c u ws hu h =
    let q = c.loop-next.invariant.3 u ws hu h in
    let (x, says, l) = own_fits (g.S.Store.state c.loop-next.store).contents (pile_of c.loop-next.names) q c.in-Some.ensures.cases.0
    c.term_at-view.result c.term_at-view.ensures in
    let t = c.in_err-tyvars_node.ensures in
    let a = adds_long c.loop-next.invariant.2 in
    refused _ c.from_residual-in_err-tyvars_node.result c.from_residual-in_err-tyvars_node.ensures.0
    (elim (t.cases x q.gathered says q.names).1 [
      | inl r ↦ inl (omega (arith, l, a, r, c.in-Some.ensures.cases.1, c.loop-next.invariant.0))
      | inr r ↦ inr (omega (arith, l, a, r, c.loop-next.invariant.2.capacity))
    ])

pub loop-next-smaller : goal.loop-next-smaller
loop-next-smaller g c =
    let p = c.requires in
    let q = c.loop-next.invariant.3 p.stands.0 p.names.0 p.stands.1 p.names.1 in
    let t = c.in_ok-tyvars_node.ensures in
    term-falls (g.S.Store.state c.loop-next.store).contents (pile_of c.loop-next.names) q c.in-Some.ensures.cases.0 c.term_at-view.result
    c.term_at-view.ensures t.stays.grows.keeps t.adds (λ x says. t.cases x q.gathered says q.names) (rw t.pending at c.in_ok-push_subterms.ensures.cases.0)

pub loop-next-preserved : goal.loop-next-preserved
loop-next-preserved g c =
    let t = c.in_ok-tyvars_node.ensures in (
      rw t.pending at c.in_ok-push_subterms.ensures.cases.1 ∙ (c.in-Some.ensures.cases.1 ∙ c.loop-next.invariant.0),
      stays_on c.loop-next.invariant.1 t.stays,
      adds_trans c.loop-next.invariant.2 t.adds,
      λ u ws hu h.
          let q = c.loop-next.invariant.3 u ws hu h in
          term_turned (g.S.Store.state c.loop-next.store).contents (pile_of c.loop-next.names) q c.in-Some.ensures.cases.0 c.term_at-view.result
          c.term_at-view.ensures t.stays.grows.keeps t.adds (λ x says. t.cases x q.gathered says q.names) (rw t.pending at c.in_ok-push_subterms.ensures.cases.0),
    )

pub returns-in_err-push_subterms-clause-adds : goal.returns-in_err-push_subterms-clause-adds
returns-in_err-push_subterms-clause-adds g c = adds_trans c.loop-next.invariant.2 c.in_ok-tyvars_node.ensures.adds

pub returns-in_err-push_subterms-clause-cases : goal.returns-in_err-push_subterms-clause-cases
returns-in_err-push_subterms-clause-cases g c u ws hu h =
    let q = c.loop-next.invariant.3 u ws hu h in
    let t = c.in_ok-tyvars_node.ensures in
    let l = term_fits (g.S.Store.state c.loop-next.store).contents (pile_of c.loop-next.names) q c.in-Some.ensures.cases.0 c.term_at-view.result
    c.term_at-view.ensures t.stays.grows.keeps t.adds (λ x says. t.cases x q.gathered says q.names) in
    let a = adds_long (adds_trans c.loop-next.invariant.2 t.adds) in
    refused _ c.from_residual-in_err-push_subterms.result c.from_residual-in_err-push_subterms.ensures.0
    (inl (omega (arith, l, a, rw t.pending at c.in_err-push_subterms.ensures.cases.1, c.in-Some.ensures.cases.1, c.loop-next.invariant.0)))

pub returns-clause-cases : goal.returns-clause-cases
returns-clause-cases g c u ws hu h = gathered_all (c.loop-next.invariant.3 u ws hu h) c.in_default.ensures.cases.1

-- THE SAME WORDS
pub returns-in_err-tyvars_node-clause-words_name : goal.returns-in_err-tyvars_node-clause-words_name
returns-in_err-tyvars_node-clause-words_name g c = same_words _ _ (adds_trans c.loop-next.invariant.2 c.in_err-tyvars_node.ensures.adds).name

pub returns-in_err-push_subterms-clause-words_name : goal.returns-in_err-push_subterms-clause-words_name
returns-in_err-push_subterms-clause-words_name g c = same_words _ _ (adds_trans c.loop-next.invariant.2 c.in_ok-tyvars_node.ensures.adds).name

pub returns-clause-words_name : goal.returns-clause-words_name
returns-clause-words_name g c = same_words _ _ c.loop-next.invariant.2.name
