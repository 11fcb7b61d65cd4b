-- What the parts of a recognised shape stand for, held to the definitions' answers.
use Rattle.std.specs.Prelude.{◌≡◌, ℕ, Some, None, Option}
use Rattle.std.proofs.Math.Option.{Option as Found, some, none}
use Rattle.hol.specs.Base.{bind}
use Rattle.hol.specs.Syntax.{Ty, Tys, tnil, tcons, Arrow}
use Rattle.hol.specs.Kernel.{App, Lam, Sides}
use Rattle.store.specs.State.{Contents}
use Rattle.walk.specs.declared.parts.Application.{Application}
use Rattle.walk.specs.declared.parts.Abstraction.{Abstraction}
use Rattle.walk.specs.declared.parts.Equation.{Equation}
use Rattle.walk.specs.declared.parts.FunctionType.{FunctionType}

-- a definition's answer and the code's: neither is there; or both are, and R holds of them
abbrev pub Like : {A B : Type 0} → (A → B → Type 0) → Found A → Option B → Type 0
Like R none None = Unit {0}
Like R none (Some y) = ⊥
Like R (some x) None = ⊥
Like R (some x) (Some y) = R x y

pub record IsApplication (c : Contents) (u : App) (r : Application) : Type 0 where
  pub func : c.term r.func ≡ some u.func
  pub arg : c.term r.arg ≡ some u.arg

pub record IsAbstraction (c : Contents) (u : Lam) (r : Abstraction) : Type 0 where
  pub ty : c.typ r.ty ≡ some u.ty
  pub body : c.term r.body ≡ some u.body

pub record IsEquation (c : Contents) (u : Sides) (r : Equation) : Type 0 where
  pub ty : c.typ r.ty ≡ some u.ty
  pub left : c.term r.left ≡ some u.left
  pub right : c.term r.right ≡ some u.right

pub record IsFunctionType (c : Contents) (u : Arrow) (r : FunctionType) : Type 0 where
  pub dom : c.typ r.dom ≡ some u.dom
  pub cod : c.typ r.cod ≡ some u.cod

abbrev pub IsType : Contents → Ty → ℕ → Type 0
IsType c a n = c.typ n ≡ some a

-- the type of a list that has one
abbrev pub only : Tys → Found Ty
only tnil = none
only (tcons a tnil) = some a
only (tcons a (tcons b bs)) = none

-- the types of a list that has two
abbrev pub two : Tys → Found Arrow
two tnil = none
two (tcons a bs) = bind (only bs) (λ b. some (record { dom = a; cod = b }))
