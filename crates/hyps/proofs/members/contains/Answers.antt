use Rattle.store.proofs.Growth.{stays_on}
use Rattle.hyps.proofs.Seeking.{found, passed, ended, fewer}
use Rattle.hyps.proofs.members.contains.Goals as goal

pub terms_at-requires : goal.terms_at-requires
terms_at-requires g c =
    let (u, p) = c.requires.term in
    let (us, q) = c.requires.list in
    let k = c.loop-h.invariant u us p q in
    (k.ahead, k.ahead_is)

pub returns-then-same : goal.returns-then-same
returns-then-same g c =
    let e = c.same.ensures in
    let at = c.loop-h.invariant in
    let (u, p) = c.requires.term in
    let (us, q) = c.requires.list in
    record {
      stays = stays_on (at u us p q).stays e.stays;
      made = λ u us p q. found (at u us p q) p (c.in-Cons.ensures (at u us p q).ahead (at u us p q).ahead_is)
          e.sound e.complete c.if-same.true;
    }

pub loop-h-smaller : goal.loop-h-smaller
loop-h-smaller g c =
    let (u, p) = c.requires.term in
    let (us, q) = c.requires.list in
    let k = c.loop-h.invariant u us p q in
    fewer c.loop-h.rest k.ahead_is (c.in-Cons.ensures k.ahead k.ahead_is) c.same.ensures.stays.grows.keeps

pub loop-h-preserved : goal.loop-h-preserved
loop-h-preserved g c u us p q =
    let k = c.loop-h.invariant u us p q in
    let e = c.same.ensures in
    passed k p (c.in-Cons.ensures k.ahead k.ahead_is) e.sound e.complete c.if-same.false e.stays

pub returns : goal.returns
returns g c =
    let at = c.loop-h.invariant in
    let (u, p) = c.requires.term in
    let (us, q) = c.requires.list in
    record {
      stays = (at u us p q).stays;
      made = λ u us p q. ended (at u us p q) (c.in_default.ensures (at u us p q).ahead (at u us p q).ahead_is);
    }
