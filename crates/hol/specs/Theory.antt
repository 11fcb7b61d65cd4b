-- Declarations, which term has which type under them, and what may be declared.
use Rattle.std.specs.Prelude.{ℕ, Bool, true, false, cond, not, ◌&&◌, ◌||◌, List, [], ◌∷◌, length, ◌==◌, nat_eq}
use Rattle.std.proofs.Math.Option.{Option, some, none}
use Rattle.hol.specs.Base.{option, bind, guard, is_some, nth, all, Word, same_word, among}
use Rattle.hol.specs.Syntax.{Ty, tyvar, tyapp, Tys, tnil, tcons, Tm, fvar, bvar, const, app, lam, same_ty, w_bool, w_fun, w_eq, w_choice, w_a, bool, fun, count_tys, arrow, subst_ty, tyvars_ty, tyvars_tm, zip, closed, Seq}

--   d_type c       a type of which nothing is said
--   d_const c A    a constant of type A of which nothing is said
--   d_def c A t    a constant of type A that stands for t
--   d_axiom w t    t is assumed under the name w
--   d_thm w s      the sequent s was proved under the name w
pub data Decl : Type 0 where
  d_type : Word → Decl
  d_const : Word → Ty → Decl
  d_def : Word → Ty → Tm → Decl
  d_axiom : Word → Tm → Decl
  d_thm : Word → Seq → Decl

-- what was declared, the newest first
abbrev pub Theory : Type 0
Theory = List Decl

pub data Declared : Theory → Decl → Type 0 where
  newest : {d : Decl} {th : Theory} → Declared (d ∷ th) d
  older : {d e : Decl} {th : Theory} → Declared th d → Declared (e ∷ th) d

-- What a declaration says, by kind; nothing where it is of another kind.
pub record Constant : Type 0 where
  pub name : Word
  pub ty : Ty

abbrev pub type_of_decl : Decl → Option Word
type_of_decl (d_type c) = some c
type_of_decl (d_const c a) = none
type_of_decl (d_def c a t) = none
type_of_decl (d_axiom w t) = none
type_of_decl (d_thm w s) = none

abbrev pub const_of_decl : Decl → Option Constant
const_of_decl (d_type c) = none
const_of_decl (d_const c a) = some (record { name = c; ty = a })
const_of_decl (d_def c a t) = some (record { name = c; ty = a })
const_of_decl (d_axiom w t) = none
const_of_decl (d_thm w s) = none

-- how many arguments a declared type takes
abbrev pub declared_arity : Theory → Word → Option ℕ
declared_arity [] w = none
declared_arity (d ∷ th) w = cond (option (type_of_decl d) false (same_word w)) (some 0) (declared_arity th w)

-- how many arguments a type's name takes, if it is one: bool and -> are always there
abbrev pub type_arity : Theory → Word → Option ℕ
type_arity th w = cond (same_word w w_bool) (some 0) (cond (same_word w w_fun) (some 2) (declared_arity th w))

-- the type of a declared constant
abbrev pub declared_const : Theory → Word → Option Ty
declared_const [] w = none
declared_const (d ∷ th) w = option (const_of_decl d) (declared_const th w) (λ k. cond (same_word w k.name) (some k.ty) (declared_const th w))

-- the type of a constant: = and @ are always there
abbrev pub const_ty : Theory → Word → Option Ty
const_ty th w = cond (same_word w w_eq) (some (fun (tyvar w_a) (fun (tyvar w_a) bool))) (cond (same_word w w_choice) (some (fun (fun (tyvar w_a) bool) (tyvar w_a))) (declared_const th w))

-- a type is ok if its names are declared, each with as many arguments as it takes
abbrev mutual
  pub ok_ty : Theory → Ty → Bool
  ok_ty th (tyvar a) = true
  ok_ty th (tyapp c as₁) = option (type_arity th c) false (nat_eq (count_tys as₁)) && ok_tys th as₁

  pub ok_tys : Theory → Tys → Bool
  ok_tys th tnil = true
  ok_tys th (tcons a as₁) = ok_ty th a && ok_tys th as₁

-- the type of a constant with types for its type variables: as many as there are, and all ok
abbrev pub const_at : Theory → Word → Tys → Option Ty
const_at th c as₁ = bind (const_ty th c) (λ a. guard (count_tys as₁ == length (tyvars_ty a []) && ok_tys th as₁) (some (subst_ty (zip (tyvars_ty a []) as₁) a)))

-- the type of an application, from those of its two parts
abbrev pub app_ty : Option Ty → Option Ty → Option Ty
app_ty o p = bind o (λ f. bind (arrow f) (λ r. bind p (λ x. guard (same_ty r.dom x) (some r.cod))))

-- the type of a term; g has the types of the λs around it, the innermost first
abbrev pub type_in : Theory → List Ty → Tm → Option Ty
type_in th g (fvar x a) = guard (ok_ty th a) (some a)
type_in th g (bvar n) = nth g n
type_in th g (const c as₁) = const_at th c as₁
type_in th g (app f x) = app_ty (type_in th g f) (type_in th g x)
type_in th g (lam a t) = guard (ok_ty th a) (bind (type_in th (a ∷ g) t) (λ b. some (fun a b)))

abbrev pub type_of : Theory → Tm → Option Ty
type_of th t = type_in th [] t

abbrev pub has_type : Theory → Tm → Ty → Bool
has_type th t a = option (type_of th t) false (same_ty a)

-- the sequents that can be used under a name: axioms and theorems
abbrev pub known : Theory → Word → Option Seq
known [] w = none
known (d_type c ∷ th) w = known th w
known (d_const c a ∷ th) w = known th w
known (d_def c a t ∷ th) w = known th w
known (d_axiom v t ∷ th) w = cond (same_word w v) (some (record { hyps = []; concl = t })) (known th w)
known (d_thm v s ∷ th) w = cond (same_word w v) (some s) (known th w)

-- a name that is written as a type variable: ' and at least one byte more
abbrev pub is_tyvar : Word → Bool
is_tyvar [] = false
is_tyvar (c ∷ []) = false
is_tyvar (c ∷ d ∷ cs) = c == 39

-- What may be declared. Names are new among types, among constants, and among axioms with theorems. The type variables of a
-- definition's term all appear in the constant's type. (That a theorem was proved is said where theorems are made.)
abbrev pub admissible : Theory → Decl → Bool
admissible th (d_type c) = not (is_some (type_arity th c) || is_tyvar c)
admissible th (d_const c a) = not (is_some (const_ty th c)) && ok_ty th a
admissible th (d_def c a t) = not (is_some (const_ty th c)) && (has_type th t a && (closed t && all (λ x. among x (tyvars_ty a [])) (tyvars_tm t [])))
admissible th (d_axiom w t) = not (is_some (known th w)) && has_type th t bool
admissible th (d_thm w s) = not (is_some (known th w))
