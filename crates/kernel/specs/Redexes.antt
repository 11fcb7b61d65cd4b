-- A λ applied to an argument.
use Rattle.std.specs.Prelude.{◌≡◌}
use Rattle.std.proofs.Math.Option.{Option as Maybe, some}
use Rattle.hol.specs.Base.{bind}
use Rattle.hol.specs.Syntax.{Tm}
use Rattle.hol.specs.Kernel.{app_of, lam_of}
use Rattle.store.specs.State.{Contents}
use Rattle.kernel.specs.declared.redex.Redex.{Redex}

-- the body of the λ, and the argument
pub record Parts : Type 0 where
  pub body : Tm
  pub arg : Tm

abbrev pub redex_of : Tm → Maybe Parts
redex_of t = bind (app_of t) (λ u. bind (lam_of u.func) (λ f. some (record { body = f.body; arg = u.arg })))

pub record IsRedex (c : Contents) (u : Parts) (r : Redex) : Type 0 where
  pub body : c.term r.body ≡ some u.body
  pub arg : c.term r.arg ≡ some u.arg
