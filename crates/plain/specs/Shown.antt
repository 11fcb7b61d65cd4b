-- How a node is shown: as a name, a type, a list of types, a term or a list of terms, if it is one.
use Rattle.std.specs.Prelude.{ℕ, cond, Some, None, Option, nat_lt}
use Rattle.store.specs.declared.view.NameView.{NameView}
use Rattle.store.specs.declared.view.NameView.TheVariants as name_view
use Rattle.store.specs.declared.view.TypeView.{TypeView}
use Rattle.store.specs.declared.view.TypeView.TheVariants as type_view
use Rattle.store.specs.declared.view.TermView.{TermView}
use Rattle.store.specs.declared.view.TermView.TheVariants as term_view
use Rattle.store.specs.declared.view.ListView.{ListView}
use Rattle.store.specs.declared.view.ListView.TheVariants as list_view
use Rattle.nodes.specs.declared.kind.Kind.{Kind}
use Rattle.nodes.specs.declared.kind.Kind.TheVariants.{Byte, TypeVariable, TypeNamed, TypeCell, Free, Bound, Constant, Apply, Lambda, TermCell}

abbrev pub name_shown : Kind → ℕ → ℕ → Option NameView
name_shown Byte x y = cond (nat_lt x 256) (Some (name_view.Byte x y)) None
name_shown TypeVariable x y = None
name_shown TypeNamed x y = None
name_shown TypeCell x y = None
name_shown Free x y = None
name_shown Bound x y = None
name_shown Constant x y = None
name_shown Apply x y = None
name_shown Lambda x y = None
name_shown TermCell x y = None

abbrev pub type_shown : Kind → ℕ → ℕ → Option TypeView
type_shown Byte x y = None
type_shown TypeVariable x y = Some (type_view.Variable x)
type_shown TypeNamed x y = Some (type_view.Named x y)
type_shown TypeCell x y = None
type_shown Free x y = None
type_shown Bound x y = None
type_shown Constant x y = None
type_shown Apply x y = None
type_shown Lambda x y = None
type_shown TermCell x y = None

abbrev pub types_shown : Kind → ℕ → ℕ → Option ListView
types_shown Byte x y = None
types_shown TypeVariable x y = None
types_shown TypeNamed x y = None
types_shown TypeCell x y = Some (list_view.Cons x y)
types_shown Free x y = None
types_shown Bound x y = None
types_shown Constant x y = None
types_shown Apply x y = None
types_shown Lambda x y = None
types_shown TermCell x y = None

abbrev pub term_shown : Kind → ℕ → ℕ → Option TermView
term_shown Byte x y = None
term_shown TypeVariable x y = None
term_shown TypeNamed x y = None
term_shown TypeCell x y = None
term_shown Free x y = Some (term_view.Free x y)
term_shown Bound x y = Some (term_view.Bound x)
term_shown Constant x y = Some (term_view.Constant x y)
term_shown Apply x y = Some (term_view.Apply x y)
term_shown Lambda x y = Some (term_view.Lambda x y)
term_shown TermCell x y = None

abbrev pub terms_shown : Kind → ℕ → ℕ → Option ListView
terms_shown Byte x y = None
terms_shown TypeVariable x y = None
terms_shown TypeNamed x y = None
terms_shown TypeCell x y = None
terms_shown Free x y = None
terms_shown Bound x y = None
terms_shown Constant x y = None
terms_shown Apply x y = None
terms_shown Lambda x y = None
terms_shown TermCell x y = Some (list_view.Cons x y)
