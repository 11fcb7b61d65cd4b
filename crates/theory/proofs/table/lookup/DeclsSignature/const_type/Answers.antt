use Rattle.std.proofs.Common.{rules}
use Rattle.theory.proofs.Found.{const-declared, const-found}
use Rattle.theory.proofs.table.lookup.DeclsSignature.const_type.Goals as goal

pub returns-clause-found : goal.returns-clause-found
returns-clause-found g c th w k e =
    rw (const-declared th w (c.if-is_named.ensures w e) (c.if-is_named-2.ensures w e))
    (const-found (g.S.Store.state c.args.store.now).contents th w c.find.result (λ p. c.find.ensures.found _ th w p k e) (λ r o p. search rules))
