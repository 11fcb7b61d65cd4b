use Rattle.lent.specs.Piles.{pile_of}
use Rattle.std.proofs.Common.{length, refl, ◌∙◌, inl, inr, arith}
use Rattle.store.proofs.Growth.{stays_same, stays_on}
use Rattle.walk.proofs.Gathering.{gathered_all}
use Rattle.walk.proofs.NameLists.{adds_none, adds_trans, adds_long}
use Rattle.walk.proofs.Pending.{begin, newest}
use Rattle.lent.proofs.Refused.{refused}
use Rattle.lent.proofs.Words.{same_words}
use Rattle.walk.proofs.TypeLists.{list-fits, list-falls, plain_turned, empty_turned, empty-falls, variable_name, variable_fits, inserted_falls, inserted_turned}
use Rattle.walk.proofs.tyvars.gather_types.Goals as goal

pub loop-next-init : goal.loop-next-init
loop-next-init g c = (
  rw c.new-pending.ensures.empty at c.in_ok-push.ensures.cases.1,
  stays_same,
  adds_none,
  λ bs ws hb h. record {
    gathered = ws;
    names = h;
    pending = begin (rw c.new-pending.ensures.empty at c.in_ok-push.ensures.cases.0) bs hb ws refl (length (pile_of c.args.names.now).held) (omega arith);
  },
)

pub first_type-requires : goal.first_type-requires
first_type-requires g c =
    let p = c.requires in
    newest (c.loop-next.invariant.3 p.stands.0 p.names.0 p.stands.1 p.names.1).pending c.in-Some.ensures.cases.0

pub returns-in_err-push_behind-clause-cases : goal.returns-in_err-push_behind-clause-cases
returns-in_err-push_behind-clause-cases g c bs ws hb h =
    let q = c.loop-next.invariant.3 bs ws hb h in
    let l = list-fits (g.S.Store.state c.loop-next.store).contents q.pending c.in-Some.ensures.cases.0 c.in-Some-first_type.first c.in-Some-first_type.rest
    c.in-Some-first_type.ensures in
    refused _ c.from_residual-in_err-push_behind.result c.from_residual-in_err-push_behind.ensures.0
    (inl (omega (arith, l, adds_long c.loop-next.invariant.2, c.in_err-push_behind.ensures.cases.1, c.in-Some.ensures.cases.1, c.loop-next.invariant.0)))

pub loop-next-smaller-in-Continue-branch-3 : goal.loop-next-smaller-in-Continue-branch-3
loop-next-smaller-in-Continue-branch-3 g c =
    let p = c.requires in
    inserted_falls c.in_ok-insert.ensures.stays.grows.keeps (pile_of c.loop-next.names)
    (c.loop-next.invariant.3 p.stands.0 p.names.0 p.stands.1 p.names.1) c.in-Some.ensures.cases.0
    (rw c.in-Variable.is at c.in-Some-first_type.ensures) (rw c.in-Variable.is at c.in_ok-push_behind.ensures.cases.0)

pub loop-next-preserved-in-Continue-branch-3 : goal.loop-next-preserved-in-Continue-branch-3
loop-next-preserved-in-Continue-branch-3 g c =
    let i = c.in_ok-insert.ensures in (
      c.in_ok-push_behind.ensures.cases.1 ∙ (c.in-Some.ensures.cases.1 ∙ c.loop-next.invariant.0),
      stays_on c.loop-next.invariant.1 i.stays,
      adds_trans c.loop-next.invariant.2 i.adds,
      λ bs ws hb h.
          let q = c.loop-next.invariant.3 bs ws hb h in
          inserted_turned i.stays.grows.keeps (pile_of c.loop-next.names) q c.in-Some.ensures.cases.0
          (rw c.in-Variable.is at c.in-Some-first_type.ensures) (rw c.in-Variable.is at c.in_ok-push_behind.ensures.cases.0) i.adds
          (λ w f. i.cases w q.gathered f q.names),
    )

pub returns-in_err-insert-clause-adds : goal.returns-in_err-insert-clause-adds
returns-in_err-insert-clause-adds g c = adds_trans c.loop-next.invariant.2 c.in_err-insert.ensures.adds

pub returns-in_err-insert-clause-cases : goal.returns-in_err-insert-clause-cases
returns-in_err-insert-clause-cases g c bs ws hb h =
    let q = c.loop-next.invariant.3 bs ws hb h in
    let says = rw c.in-Variable.is at c.in-Some-first_type.ensures in
    let (w, f) = variable_name (g.S.Store.state c.loop-next.store).contents q.pending c.in-Some.ensures.cases.0 says in
    let l = variable_fits (g.S.Store.state c.loop-next.store).contents q.pending c.in-Some.ensures.cases.0 says in
    refused _ c.from_residual-in_err-insert.result c.from_residual-in_err-insert.ensures.0
    (inr (omega (arith, l, c.loop-next.invariant.2.capacity, (c.in_err-insert.ensures.cases w q.gathered f q.names).1)))

pub loop-next-smaller : goal.loop-next-smaller
loop-next-smaller g c =
    let p = c.requires in
    list-falls (g.S.Store.state c.loop-next.store).contents (c.loop-next.invariant.3 p.stands.0 p.names.0 p.stands.1 p.names.1).pending
    c.in-Some.ensures.cases.0 c.in-Some-first_type.first c.in-Some-first_type.rest c.in-Some-first_type.ensures c.in_ok-push_behind.ensures.cases.0

pub loop-next-preserved : goal.loop-next-preserved
loop-next-preserved g c = (
  c.in_ok-push_behind.ensures.cases.1 ∙ (c.in-Some.ensures.cases.1 ∙ c.loop-next.invariant.0),
  c.loop-next.invariant.1,
  c.loop-next.invariant.2,
  λ bs ws hb h.
      let q = c.loop-next.invariant.3 bs ws hb h in
      record {
        gathered = q.gathered;
        names = q.names;
        pending = plain_turned (g.S.Store.state c.loop-next.store).contents q.pending c.in-Some.ensures.cases.0 c.in-Some-first_type.first
            c.in-Some-first_type.rest c.in-Some-first_type.ensures c.in_default-first.not-Variable c.in_ok-push_behind.ensures.cases.0;
      },
)

pub loop-next-smaller-in_default-first_type : goal.loop-next-smaller-in_default-first_type
loop-next-smaller-in_default-first_type g c =
    let p = c.requires in
    empty-falls (g.S.Store.state c.loop-next.store).contents (c.loop-next.invariant.3 p.stands.0 p.names.0 p.stands.1 p.names.1).pending
    c.in-Some.ensures.cases.0 c.in_default-first_type.ensures

pub loop-next-preserved-in_default-first_type : goal.loop-next-preserved-in_default-first_type
loop-next-preserved-in_default-first_type g c = (
  c.in-Some.ensures.cases.1 ∙ c.loop-next.invariant.0,
  c.loop-next.invariant.1,
  c.loop-next.invariant.2,
  λ bs ws hb h.
      let q = c.loop-next.invariant.3 bs ws hb h in
      record {
        gathered = q.gathered;
        names = q.names;
        pending = empty_turned (g.S.Store.state c.loop-next.store).contents q.pending c.in-Some.ensures.cases.0 c.in_default-first_type.ensures;
      },
)

pub returns-clause-cases : goal.returns-clause-cases
returns-clause-cases g c bs ws hb h = gathered_all (c.loop-next.invariant.3 bs ws hb h) c.in_default.ensures.cases.1

-- THE SAME WORDS
pub returns-in_err-push_behind-clause-words_name : goal.returns-in_err-push_behind-clause-words_name
returns-in_err-push_behind-clause-words_name g c = same_words _ _ c.loop-next.invariant.2.name

pub returns-in_err-insert-clause-words_name : goal.returns-in_err-insert-clause-words_name
returns-in_err-insert-clause-words_name g c = same_words _ _ (adds_trans c.loop-next.invariant.2 c.in_err-insert.ensures.adds).name

pub returns-clause-words_name : goal.returns-clause-words_name
returns-clause-words_name g c = same_words _ _ c.loop-next.invariant.2.name
