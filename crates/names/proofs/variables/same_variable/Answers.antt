use Rattle.std.proofs.Common.{◌&&◌, sym, ap, ◌∙◌}
use Rattle.hol.specs.Syntax.{same_ty}
use Rattle.store.proofs.Growth.{stays_on}
use Rattle.names.proofs.Compared.{words_compared, types_compared}
use Rattle.names.proofs.variables.same_variable.Goals as goal

pub returns-then-same_name : goal.returns-then-same_name
returns-then-same_name g c =
    let n = c.same_name.ensures in
    let t = c.same_type.ensures in
    let k = n.stays.grows.keeps in
    record {
      stays = stays_on n.stays t.stays;
      same = λ v d w e hv hd hw he.
          let names = words_compared hv hw n.sound n.complete in
          let types = types_compared (k.typ _ d hd) (k.typ _ e he) t.sound t.complete in
          types ∙ ap (λ b. b && same_ty d e) (sym c.if-same_name.true ∙ names);
    }

pub returns-else-same_name : goal.returns-else-same_name
returns-else-same_name g c =
    let n = c.same_name.ensures in
    record {
      stays = n.stays;
      same = λ v d w e hv hd hw he. c.if-same_name.false ∙ ap (λ b. b && same_ty d e)
          (sym c.if-same_name.false ∙ words_compared hv hw n.sound n.complete);
    }
