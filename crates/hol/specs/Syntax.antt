-- Types, terms and sequents; substitution in them.
use Rattle.std.specs.Prelude.{ℕ, ◌+◌, Bool, true, false, cond, ◌&&◌, ◌||◌, List, [], ◌∷◌, ◌++◌, codes, ◌==◌}
use Rattle.std.proofs.Math.Option.{Option, some, none}
use Rattle.hol.specs.Base.{option, guard, Word, same_word, among}

-- a type is a type variable, or a named type with its arguments
mutual
  pub data Ty : Type 0 where
    tyvar : Word → Ty
    tyapp : Word → Tys → Ty

  pub data Tys : Type 0 where
    tnil : Tys
    tcons : Ty → Tys → Tys

-- Bound variables are counted from inside, free ones have a name and a type.
--   fvar x A     the free variable x of type A
--   bvar n       the variable of the n-th λ outwards, from 0
--   const c As   the constant c, with types for the type variables of its type, in the order in which these first appear in it
--   app f x      f applied to x
--   lam A t      λ over a variable of type A
pub data Tm : Type 0 where
  fvar : Word → Ty → Tm
  bvar : ℕ → Tm
  const : Word → Tys → Tm
  app : Tm → Tm → Tm
  lam : Ty → Tm → Tm

-- Equality of types and of terms. Terms that differ only in the names of λs are the same term, since those names are not kept.
abbrev mutual
  pub same_ty : Ty → Ty → Bool
  same_ty (tyvar a) (tyvar b) = same_word a b
  same_ty (tyvar a) (tyapp d bs) = false
  same_ty (tyapp c as₁) (tyvar b) = false
  same_ty (tyapp c as₁) (tyapp d bs) = same_word c d && same_tys as₁ bs

  pub same_tys : Tys → Tys → Bool
  same_tys tnil tnil = true
  same_tys tnil (tcons b bs) = false
  same_tys (tcons a as₁) tnil = false
  same_tys (tcons a as₁) (tcons b bs) = same_ty a b && same_tys as₁ bs

abbrev pub same_tm : Tm → Tm → Bool
same_tm (fvar x a) (fvar y b) = same_word x y && same_ty a b
same_tm (fvar x a) (bvar m) = false
same_tm (fvar x a) (const d bs) = false
same_tm (fvar x a) (app g y) = false
same_tm (fvar x a) (lam b u) = false
same_tm (bvar n) (fvar y b) = false
same_tm (bvar n) (bvar m) = n == m
same_tm (bvar n) (const d bs) = false
same_tm (bvar n) (app g y) = false
same_tm (bvar n) (lam b u) = false
same_tm (const c as₁) (fvar y b) = false
same_tm (const c as₁) (bvar m) = false
same_tm (const c as₁) (const d bs) = same_word c d && same_tys as₁ bs
same_tm (const c as₁) (app g y) = false
same_tm (const c as₁) (lam b u) = false
same_tm (app f x) (fvar y b) = false
same_tm (app f x) (bvar m) = false
same_tm (app f x) (const d bs) = false
same_tm (app f x) (app g y) = same_tm f g && same_tm x y
same_tm (app f x) (lam b u) = false
same_tm (lam a t) (fvar y b) = false
same_tm (lam a t) (bvar m) = false
same_tm (lam a t) (const d bs) = false
same_tm (lam a t) (app g y) = false
same_tm (lam a t) (lam b u) = same_ty a b && same_tm t u

-- The names that are always there: the types bool and ->, the constants = and @, and the type variable 'a of the latter two.
abbrev pub w_bool : Word
w_bool = codes "bool"

abbrev pub w_fun : Word
w_fun = codes "->"

abbrev pub w_eq : Word
w_eq = codes "="

abbrev pub w_choice : Word
w_choice = codes "@"

abbrev pub w_a : Word
w_a = codes "'a"

abbrev pub bool : Ty
bool = tyapp w_bool tnil

-- the functions from a to b
abbrev pub fun : Ty → Ty → Ty
fun a b = tyapp w_fun (tcons a (tcons b tnil))

-- the list of one type
abbrev pub one : Ty → Tys
one a = tcons a tnil

-- how many types a list has
abbrev pub count_tys : Tys → ℕ
count_tys tnil = 0
count_tys (tcons a as₁) = 1 + count_tys as₁

-- the two types of a function type
pub record Arrow : Type 0 where
  pub dom : Ty
  pub cod : Ty

abbrev pub arrow : Ty → Option Arrow
arrow (tyvar a) = none
arrow (tyapp c tnil) = none
arrow (tyapp c (tcons a tnil)) = none
arrow (tyapp c (tcons a (tcons b tnil))) = guard (same_word c w_fun) (some (record { dom = a; cod = b }))
arrow (tyapp c (tcons a (tcons b (tcons d ds)))) = none

-- the equation s = t between terms of type a
abbrev pub equal : Ty → Tm → Tm → Tm
equal a s t = app (app (const w_eq (one a)) s) t

-- TYPE SUBSTITUTION: types for type variables, all at once. Of two entries for one variable the first counts.
pub record TyEntry : Type 0 where
  pub name : Word
  pub ty : Ty

abbrev pub TySubst : Type 0
TySubst = List TyEntry

abbrev pub find_ty : TySubst → Word → Option Ty
find_ty [] w = none
find_ty (e ∷ es) w = cond (same_word w e.name) (some e.ty) (find_ty es w)

abbrev mutual
  pub subst_ty : TySubst → Ty → Ty
  subst_ty es (tyvar a) = option (find_ty es a) (tyvar a) (λ t. t)
  subst_ty es (tyapp c as₁) = tyapp c (subst_tys es as₁)

  pub subst_tys : TySubst → Tys → Tys
  subst_tys es tnil = tnil
  subst_tys es (tcons a as₁) = tcons (subst_ty es a) (subst_tys es as₁)

-- the same in every type of a term
abbrev pub inst_tm : TySubst → Tm → Tm
inst_tm es (fvar x a) = fvar x (subst_ty es a)
inst_tm es (bvar n) = bvar n
inst_tm es (const c as₁) = const c (subst_tys es as₁)
inst_tm es (app f x) = app (inst_tm es f) (inst_tm es x)
inst_tm es (lam a t) = lam (subst_ty es a) (inst_tm es t)

-- TYPE VARIABLES of a type and of a term, each once, behind ws, in the order in which they first appear
abbrev pub insert : Word → List Word → List Word
insert w ws = cond (among w ws) ws (ws ++ (w ∷ []))

abbrev mutual
  pub tyvars_ty : Ty → List Word → List Word
  tyvars_ty (tyvar a) ws = insert a ws
  tyvars_ty (tyapp c as₁) ws = tyvars_tys as₁ ws

  pub tyvars_tys : Tys → List Word → List Word
  tyvars_tys tnil ws = ws
  tyvars_tys (tcons a as₁) ws = tyvars_tys as₁ (tyvars_ty a ws)

abbrev pub tyvars_tm : Tm → List Word → List Word
tyvars_tm (fvar x a) ws = tyvars_ty a ws
tyvars_tm (bvar n) ws = ws
tyvars_tm (const c as₁) ws = tyvars_tys as₁ ws
tyvars_tm (app f x) ws = tyvars_tm x (tyvars_tm f ws)
tyvars_tm (lam a t) ws = tyvars_tm t (tyvars_ty a ws)

-- the first name with the first type, and so on
abbrev pub zip : List Word → Tys → TySubst
zip [] as₁ = []
zip (w ∷ ws) tnil = []
zip (w ∷ ws) (tcons a as₁) = record { name = w; ty = a } ∷ zip ws as₁

-- BOUND VARIABLES. open_at n s t: s for the variable of the λ that is n outwards from here (s has no bound variable of its own that
-- is loose, so nothing is captured)
abbrev pub open_at : ℕ → Tm → Tm → Tm
open_at n s (fvar x a) = fvar x a
open_at n s (bvar k) = cond (k == n) s (bvar k)
open_at n s (const c as₁) = const c as₁
open_at n s (app f x) = app (open_at n s f) (open_at n s x)
open_at n s (lam a t) = lam a (open_at (n + 1) s t)

-- is this the free variable y of type b? Name and type both count.
abbrev pub same_var : Word → Ty → Word → Ty → Bool
same_var y b x a = same_word y x && same_ty b a

-- the free variable y of type b becomes the variable of a λ around
abbrev pub close_at : ℕ → Word → Ty → Tm → Tm
close_at n y b (fvar x a) = cond (same_var y b x a) (bvar n) (fvar x a)
close_at n y b (bvar k) = bvar k
close_at n y b (const c as₁) = const c as₁
close_at n y b (app f x) = app (close_at n y b f) (close_at n y b x)
close_at n y b (lam a t) = lam a (close_at (n + 1) y b t)

-- λ y : b. t
abbrev pub abstract : Word → Ty → Tm → Tm
abstract y b t = lam b (close_at 0 y b t)

-- FREE VARIABLES
abbrev pub free_in : Word → Ty → Tm → Bool
free_in y b (fvar x a) = same_var y b x a
free_in y b (bvar k) = false
free_in y b (const c as₁) = false
free_in y b (app f x) = free_in y b f || free_in y b x
free_in y b (lam a t) = free_in y b t

-- no free variable
abbrev pub closed : Tm → Bool
closed (fvar x a) = false
closed (bvar k) = true
closed (const c as₁) = true
closed (app f x) = closed f && closed x
closed (lam a t) = closed t

-- SUBSTITUTION: terms for free variables, all at once. Of two entries for one variable the first counts.
pub record Entry : Type 0 where
  pub name : Word
  pub ty : Ty
  pub tm : Tm

abbrev pub Subst : Type 0
Subst = List Entry

abbrev pub find_tm : Subst → Word → Ty → Tm
find_tm [] x a = fvar x a
find_tm (e ∷ es) x a = cond (same_var x a e.name e.ty) e.tm (find_tm es x a)

abbrev pub subst_tm : Subst → Tm → Tm
subst_tm es (fvar x a) = find_tm es x a
subst_tm es (bvar k) = bvar k
subst_tm es (const c as₁) = const c as₁
subst_tm es (app f x) = app (subst_tm es f) (subst_tm es x)
subst_tm es (lam a t) = lam a (subst_tm es t)

-- a sequent: assumptions and a conclusion
pub record Seq : Type 0 where
  pub hyps : List Tm
  pub concl : Tm
