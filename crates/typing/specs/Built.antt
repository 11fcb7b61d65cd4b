-- How many nodes typing a term builds: the type of each constant, and a function type for each λ.
use Rattle.std.specs.Prelude.{ℕ, ◌+◌, List, ◌∷◌}
use Rattle.hol.specs.Base.{option}
use Rattle.hol.specs.Syntax.{Ty, Tm, fvar, bvar, const, app, lam}
use Rattle.hol.specs.Theory.{Theory, const_at}
use Rattle.store.specs.Measures.{nodes_ty}

-- g has the types of the λs around, the innermost first
abbrev pub types_built : Theory → List Ty → Tm → ℕ
types_built th g (fvar x a) = 0
types_built th g (bvar n) = 0
types_built th g (const c as₁) = option (const_at th c as₁) 0 nodes_ty
types_built th g (app f x) = types_built th g f + types_built th g x
types_built th g (lam a t) = 3 + types_built th (a ∷ g) t
