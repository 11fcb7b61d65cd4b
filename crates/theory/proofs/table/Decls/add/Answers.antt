use Rattle.std.proofs.Common.{refl, arith, ◌∙◌}
use Rattle.theory.proofs.Adding.{added}
use Rattle.theory.proofs.table.Decls.add.Goals as goal

pub returns-clause-cases : goal.returns-clause-cases
returns-clause-cases c =
    let words = c.copy_from_slice.ensures.after ∙ c.from.ensures in
    added c.args.declaration c.args.self.now _ c.copy_from_slice.new.self _ (omega arith) (omega arith) words refl refl refl
