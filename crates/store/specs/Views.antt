-- What a view of a number says of what the number stands for. A view is given of every number that stands for something of its kind.
use Rattle.std.specs.Prelude.{◌≡◌, ℕ, List, [], ◌∷◌, Some, None, Option}
use Rattle.std.proofs.Math.Option.{some}
use Rattle.hol.specs.Base.{Word}
use Rattle.hol.specs.Syntax.{Ty, tyvar, tyapp, Tys, tnil, tcons, Tm, fvar, bvar, const, app, lam}
use Rattle.store.specs.State.{Contents}
use Rattle.store.specs.declared.view.NameView.{NameView}
use Rattle.store.specs.declared.view.NameView.TheVariants.{Empty, Byte}
use Rattle.store.specs.declared.view.TypeView.{TypeView}
use Rattle.store.specs.declared.view.TypeView.TheVariants.{Variable, Named}
use Rattle.store.specs.declared.view.TermView.{TermView}
use Rattle.store.specs.declared.view.TermView.TheVariants.{Free, Bound, Constant, Apply, Lambda}
use Rattle.store.specs.declared.view.ListView.{ListView}
use Rattle.store.specs.declared.view.ListView.TheVariants.{Nil, Cons}

-- a name of at least one byte
pub record ViewByte (c : Contents) (b r : ℕ) (w : Word) : Type 0 where
  pub rest : Word
  pub is : w ≡ b ∷ rest
  pub rest_is : c.word r ≡ some rest

abbrev pub NameSays : Contents → Word → Option NameView → Type 0
NameSays c w None = ⊥
NameSays c w (Some Empty) = w ≡ []
NameSays c w (Some (Byte b r)) = ViewByte c b r w

pub record ViewVariable (c : Contents) (x : ℕ) (a : Ty) : Type 0 where
  pub name : Word
  pub is : a ≡ tyvar name
  pub name_is : c.word x ≡ some name

pub record ViewNamed (c : Contents) (x as₁ : ℕ) (a : Ty) : Type 0 where
  pub name : Word
  pub args : Tys
  pub is : a ≡ tyapp name args
  pub name_is : c.word x ≡ some name
  pub args_are : c.types as₁ ≡ some args

abbrev pub TypeSays : Contents → Ty → Option TypeView → Type 0
TypeSays c a None = ⊥
TypeSays c a (Some (Variable x)) = ViewVariable c x a
TypeSays c a (Some (Named x as₁)) = ViewNamed c x as₁ a

pub record ViewTypes (c : Contents) (a as₁ : ℕ) (bs : Tys) : Type 0 where
  pub head : Ty
  pub tail : Tys
  pub is : bs ≡ tcons head tail
  pub head_is : c.typ a ≡ some head
  pub tail_is : c.types as₁ ≡ some tail

abbrev pub TypesSays : Contents → Tys → Option ListView → Type 0
TypesSays c bs None = ⊥
TypesSays c bs (Some Nil) = bs ≡ tnil
TypesSays c bs (Some (Cons a as₁)) = ViewTypes c a as₁ bs

pub record ViewFree (c : Contents) (x a : ℕ) (t : Tm) : Type 0 where
  pub name : Word
  pub ty : Ty
  pub is : t ≡ fvar name ty
  pub name_is : c.word x ≡ some name
  pub ty_is : c.typ a ≡ some ty

pub record ViewConstant (c : Contents) (x as₁ : ℕ) (t : Tm) : Type 0 where
  pub name : Word
  pub args : Tys
  pub is : t ≡ const name args
  pub name_is : c.word x ≡ some name
  pub args_are : c.types as₁ ≡ some args

pub record ViewApply (c : Contents) (f x : ℕ) (t : Tm) : Type 0 where
  pub func : Tm
  pub arg : Tm
  pub is : t ≡ app func arg
  pub func_is : c.term f ≡ some func
  pub arg_is : c.term x ≡ some arg

pub record ViewLambda (c : Contents) (a b : ℕ) (t : Tm) : Type 0 where
  pub ty : Ty
  pub body : Tm
  pub is : t ≡ lam ty body
  pub ty_is : c.typ a ≡ some ty
  pub body_is : c.term b ≡ some body

abbrev pub TermSays : Contents → Tm → Option TermView → Type 0
TermSays c t None = ⊥
TermSays c t (Some (Free x a)) = ViewFree c x a t
TermSays c t (Some (Bound k)) = t ≡ bvar k
TermSays c t (Some (Constant x as₁)) = ViewConstant c x as₁ t
TermSays c t (Some (Apply f x)) = ViewApply c f x t
TermSays c t (Some (Lambda a b)) = ViewLambda c a b t

pub record ViewTerms (c : Contents) (t ts : ℕ) (us : List Tm) : Type 0 where
  pub head : Tm
  pub tail : List Tm
  pub is : us ≡ head ∷ tail
  pub head_is : c.term t ≡ some head
  pub tail_is : c.terms ts ≡ some tail

abbrev pub TermsSays : Contents → List Tm → Option ListView → Type 0
TermsSays c us None = ⊥
TermsSays c us (Some Nil) = us ≡ []
TermsSays c us (Some (Cons t ts)) = ViewTerms c t ts us
