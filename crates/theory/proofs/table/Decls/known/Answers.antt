use Rattle.std.proofs.Common.{rules}
use Rattle.theory.proofs.Found.{seq_found}
use Rattle.theory.proofs.table.Decls.known.Goals as goal

pub returns-clause-found : goal.returns-clause-found
returns-clause-found g c th w k e =
    seq_found (g.S.Store.state c.args.store.now).contents th w c.find.result _ c.empty-no_hyps.ensures.terms
    (λ p. c.find.ensures.found _ th w p k e) (λ r o p. search rules)
