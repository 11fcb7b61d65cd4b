use Rattle.std.proofs.Common.{false, eqb, sym, ap, ◌∙◌}
use Rattle.hol.specs.Base.{option}
use Rattle.hol.specs.Syntax.{count_tys}
use Rattle.typing.proofs.ok.takes.Goals as goal

pub has_count-requires : goal.has_count-requires
has_count-requires g c = let (bs, e) = c.requires.types in (bs, c.arity.ensures.stays.grows.keeps.types _ bs e)

pub returns-in-Some : goal.returns-in-Some
returns-in-Some g c = record {
  stays = c.arity.ensures.stays;
  takes = λ th w bs k hw e.
      let f = c.in-Some.ensures.found th w k hw in
      c.has_count.ensures bs (c.arity.ensures.stays.grows.keeps.types _ bs e) ∙ (ap (eqb (count_tys bs)) f.stands ∙ ap (λ o. option o false (eqb (count_tys bs))) (sym f.is));
}
