use Rattle.std.proofs.Common.{sym, ◌∙◌, inl, arith}
use Rattle.hyps.proofs.Seeking.{fewer}
use Rattle.store.proofs.Growth.{stays_on}
use Rattle.workspace.specs.Refusals.{passed, failed, untested}
use Rattle.workspace.proofs.Serving.{no_room}
use Rattle.workspace.proofs.Freeness.{ended, found, next, smaller}
use Rattle.workspace.proofs.lists.free_in_none.Goals as goal

pub terms_at-requires : goal.terms_at-requires
terms_at-requires g c =
    let k = c.loop-h.invariant _ _ _ c.requires.name.1 c.requires.typ.1 c.requires.list.1 in
    (k.ahead, k.ahead_is)

pub free_in-requires : goal.free_in-requires
free_in-requires g c =
    let k = c.loop-h.invariant _ _ _ c.requires.name.1 c.requires.typ.1 c.requires.list.1 in
    let v = c.in-Cons.ensures k.ahead k.ahead_is in
    let keeps = k.stays.grows.keeps in
    record {
      name = (_, keeps.word _ _ c.requires.name.1);
      typ = (_, keeps.typ _ _ c.requires.typ.1);
      term = (_, v.head_is);
    }

pub returns-in_err-free_in : goal.returns-in_err-free_in
returns-in_err-free_in g c =
    let inv = c.loop-h.invariant in
    let at = inv _ _ _ c.requires.name.1 c.requires.typ.1 c.requires.list.1 in
    let e = c.in_err-free_in.ensures in
    record {
      stays = stays_on at.stays e.stays;
      cases = λ y b us p q h.
          let k = inv y b us p q h in
          let v = c.in-Cons.ensures k.ahead k.ahead_is in
          let keeps = k.stays.grows.keeps in
          let n = smaller k v in
          let short = e.cases y b v.head (keeps.word _ _ p) (keeps.typ _ _ q) v.head_is in
          rw (no_room c.from_residual.result c.from_residual.ensures.1) (untested (inl (omega arith)));
    }

pub returns-then-branch : goal.returns-then-branch
returns-then-branch g c =
    let inv = c.loop-h.invariant in
    let at = inv _ _ _ c.requires.name.1 c.requires.typ.1 c.requires.list.1 in
    let e = c.in_ok-free_in.ensures in
    record {
      stays = stays_on at.stays e.stays;
      cases = λ y b us p q h.
          let k = inv y b us p q h in
          let v = c.in-Cons.ensures k.ahead k.ahead_is in
          let keeps = k.stays.grows.keeps in
          failed (found k v (sym c.if-branch.true ∙ e.cases y b v.head (keeps.word _ _ p) (keeps.typ _ _ q) v.head_is));
    }

pub loop-h-smaller : goal.loop-h-smaller
loop-h-smaller g c =
    let k = c.loop-h.invariant _ _ _ c.requires.name.1 c.requires.typ.1 c.requires.list.1 in
    fewer c.loop-h.rest k.ahead_is (c.in-Cons.ensures k.ahead k.ahead_is) c.in_ok-free_in.ensures.stays.grows.keeps

pub loop-h-preserved : goal.loop-h-preserved
loop-h-preserved g c y b us p q h =
    let k = c.loop-h.invariant y b us p q h in
    let v = c.in-Cons.ensures k.ahead k.ahead_is in
    let keeps = k.stays.grows.keeps in
    let e = c.in_ok-free_in.ensures in
    next k v (sym c.if-branch.false ∙ e.cases y b v.head (keeps.word _ _ p) (keeps.typ _ _ q) v.head_is) e.stays

pub returns : goal.returns
returns g c =
    let inv = c.loop-h.invariant in
    let at = inv _ _ _ c.requires.name.1 c.requires.typ.1 c.requires.list.1 in
    record {
      stays = at.stays;
      cases = λ y b us p q h. let k = inv y b us p q h in passed (ended k (c.in_default.ensures k.ahead k.ahead_is));
    }
