-- The terms right below a term.
use Rattle.std.specs.Prelude.{ℕ, List, [], ◌∷◌}
use Rattle.store.specs.declared.view.TermView.{TermView}
use Rattle.store.specs.declared.view.TermView.TheVariants.{Free, Bound, Constant, Apply, Lambda}

-- their numbers, the last first
abbrev pub below : TermView → List ℕ
below (Free x a) = []
below (Bound k) = []
below (Constant x as₁) = []
below (Apply f x) = x ∷ f ∷ []
below (Lambda a b) = b ∷ []
