use Rattle.std.proofs.Common.{rules}
use Rattle.theory.proofs.Found.{def_found}
use Rattle.theory.proofs.table.Decls.find_def.Goals as goal

pub returns-clause-found : goal.returns-clause-found
returns-clause-found g c th w k e =
    def_found (g.S.Store.state c.args.store.now).contents th w c.find.result (λ p. c.find.ensures.found _ th w p k e) (λ r o p. search rules)
