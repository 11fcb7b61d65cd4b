use Rattle.std.proofs.Common.{sym, ◌∙◌}
use Rattle.names.proofs.Compared.{words_compared}
use Rattle.store.proofs.Growth.{stays_same, stays_on}
use Rattle.walk.proofs.NameLists.{begin_seeking, met, none_left}
use Rattle.walk.proofs.listed.among.Goals as goal

pub loop-other-init : goal.loop-other-init
loop-other-init g c = (stays_same, λ w ws hw h. begin_seeking _ w h)

pub returns-then-same_name : goal.returns-then-same_name
returns-then-same_name g c =
    let s = c.loop-other.invariant.0 in
    let n = c.same_name.ensures in
    record {
      stays = stays_on s n.stays;
      found = λ w ws hw h.
          let m = met (c.loop-other.invariant.1 w ws hw h) c.loop-other-test.true in
          let k = s.grows.keeps.word in
          sym (m.found (sym (words_compared (k _ w hw) (k _ m.name m.name_is) n.sound n.complete) ∙ c.if-same_name.true));
    }

pub loop-other-preserved : goal.loop-other-preserved
loop-other-preserved g c =
    let s = c.loop-other.invariant.0 in
    let n = c.same_name.ensures in (
      stays_on s n.stays,
      λ w ws hw h.
          let m = met (c.loop-other.invariant.1 w ws hw h) c.loop-other-test.true in
          let k = s.grows.keeps.word in
          m.missed (sym (words_compared (k _ w hw) (k _ m.name m.name_is) n.sound n.complete) ∙ c.if-same_name.false),
    )

pub returns : goal.returns
returns g c = record {
  stays = c.loop-other.invariant.0;
  found = λ w ws hw h. sym (none_left (c.loop-other.invariant.1 w ws hw h) c.loop-other-test.false);
}
