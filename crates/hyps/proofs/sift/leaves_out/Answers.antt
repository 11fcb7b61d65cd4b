use Rattle.store.proofs.Growth.{stays_on}
use Rattle.hyps.proofs.Leaving.{list_of, either_list, by_in, by_same, by_first, by_second, by_repeated}
use Rattle.hyps.proofs.sift.leaves_out.Goals as goal

pub contains-requires : goal.contains-requires
contains-requires g c =
    let (p, h) = c.requires.test in
    record { term = c.requires.term; list = list_of (rw c.in-In.is at h) }

pub contains-requires-else-same : goal.contains-requires-else-same
contains-requires-else-same g c =
    let (p, h) = c.requires.test in
    let k = c.same-in-SameOrIn.ensures.stays.grows.keeps in
    let (u, e) = c.requires.term in
    let (gs, f) = either_list (rw c.in-SameOrIn.is at h) in
    record { term = (u, k.term c.args.t u e); list = (gs, k.terms c.in-SameOrIn.list gs f) }

pub returns-in-In : goal.returns-in-In
returns-in-In g c =
    let e = c.contains.ensures in
    record { stays = e.stays; made = λ p u vs h is list. by_in c.args.t u vs is (rw c.in-In.is at h) e.made }

pub returns-in-Same : goal.returns-in-Same
returns-in-Same g c =
    let e = c.same.ensures in
    record {
      stays = e.stays;
      made = λ p u vs h is list. by_same c.args.t u vs is (rw c.in-Same.is at h) (record { sound = e.sound; complete = e.complete });
    }

pub returns-then-same : goal.returns-then-same
returns-then-same g c =
    let e = c.same-in-SameOrIn.ensures in
    record {
      stays = e.stays;
      made = λ p u vs h is list. by_first c.args.t u vs is (rw c.in-SameOrIn.is at h)
          (record { sound = e.sound; complete = e.complete }) c.if-same.true;
    }

pub returns-else-same : goal.returns-else-same
returns-else-same g c =
    let e = c.same-in-SameOrIn.ensures in
    let d = c.contains-else-same.ensures in
    let k = e.stays.grows.keeps in
    record {
      stays = stays_on e.stays d.stays;
      made = λ p u vs h is list. by_second c.args.t u vs is (rw c.in-SameOrIn.is at h)
          (record { sound = e.sound; complete = e.complete }) c.if-same.false
          (λ w ws m n. d.made w ws (k.term _ w m) (k.terms _ ws n));
    }

pub returns-in-Repeated : goal.returns-in-Repeated
returns-in-Repeated g c =
    let e = c.contains-in-Repeated.ensures in
    record { stays = e.stays; made = λ p u vs h is list. by_repeated c.args.t u vs is (rw c.in-Repeated.is at h) list e.made }
