-- The first type of a list, opened.
use Rattle.std.specs.Prelude.{◌≡◌, ℕ, List, [], ◌∷◌, Some, None, Option}
use Rattle.std.proofs.Math.Option.{some}
use Rattle.hol.specs.Syntax.{Ty, Tys, tnil, tcons}
use Rattle.store.specs.State.{Contents}
use Rattle.store.specs.Views.{TypeSays}
use Rattle.store.specs.declared.view.TypeView.{TypeView}
use Rattle.store.specs.declared.view.TypeView.TheVariants.{Variable, Named}

-- the list has a first type, which v shows; r stands for the rest
pub record First (c : Contents) (v : TypeView) (r : ℕ) (bs : Tys) : Type 0 where
  pub first : Ty
  pub rest : Tys
  pub is : bs ≡ tcons first rest
  pub says : TypeSays c first (Some v)
  pub rest_is : c.types r ≡ some rest

-- how a list of types begins
abbrev pub FirstSays : Contents → Tys → Option (TypeView × ℕ) → Type 0
FirstSays c bs None = bs ≡ tnil
FirstSays c bs (Some v) = First c v.0 v.1 bs

-- the lists that are still to be gone through once the first type is opened, the last first
abbrev pub behind : TypeView → ℕ → List ℕ
behind (Variable x) r = r ∷ []
behind (Named x as₁) r = r ∷ as₁ ∷ []
