use Rattle.std.proofs.Common.{sym, ◌∙◌}
use Rattle.store.proofs.Growth.{stays_on}
use Rattle.names.proofs.Compared.{types_compared}
use Rattle.hyps.proofs.Seeking.{same_decides}
use Rattle.kernel.proofs.equality.meets.Goals as goal

pub returns-then-same_type : goal.returns-then-same_type
returns-then-same_type g c =
    let a = c.same_type.ensures in
    let b = c.same.ensures in
    let k = a.stays.grows.keeps in
    record {
      stays = stays_on a.stays b.stays;
      same = λ p q h i.
          rw (sym (types_compared h.ty i.ty a.sound a.complete) ∙ c.if-same_type.true)
          (same_decides p.right q.left (k.term _ _ h.right) (k.term _ _ i.left) b.sound b.complete);
    }

pub returns-else-same_type : goal.returns-else-same_type
returns-else-same_type g c =
    let a = c.same_type.ensures in
    record {
      stays = a.stays;
      same = λ p q h i. rw (sym (types_compared h.ty i.ty a.sound a.complete) ∙ c.if-same_type.false) c.if-same_type.false;
    }
