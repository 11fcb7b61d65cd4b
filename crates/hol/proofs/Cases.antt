-- Small texts and what the definitions make of them, each by computation; and values in a model where a type variable has three
-- elements.
use Rattle.std.proofs.Common.{◌≡◌, ℕ, List, [], ◌++◌, codes, refl}
use mathlib.Core.Option.{Option, some, none}
use Rattle.hol.specs.Base.{Word}
use Rattle.hol.specs.Syntax.{Ty, tyvar, tnil, Tm, fvar, bvar, const, app, lam, fun, one, equal, w_choice, Seq}
use Rattle.hol.specs.Theory.{known}
use Rattle.hol.specs.Kernel.{seq}
use Rattle.hol.specs.Models.{Model, value, consts}
use Rattle.hol.specs.Text.{Verdict, broken, refused, accepted, judge}
use Rattle.hol.specs.Says.{truth, falsehood}

-- a verdict without the theory
pub data Brief : Type 0 where
  accepts : ℕ → Brief
  refuses : ℕ → ℕ → Brief
  breaks : Brief

abbrev pub brief : Verdict → Brief
brief broken = breaks
brief (refused i j) = refuses i j
brief (accepted n th) = accepts n

-- the sequent that an accepted text has under a name
abbrev pub named_in : Verdict → Word → Option Seq
named_in broken w = none
named_in (refused i j) w = none
named_in (accepted n th) w = known th w

-- T, which stands for truth
abbrev pub def_T : List ℕ
def_T = codes "(def T bool ($ ($ (! = (-> bool bool)) (\\ p bool p)) (\\ p bool p)))"

-- TRUTH, and its proof
abbrev thm_TRUTH : List ℕ
thm_TRUTH = codes "(thm TRUTH (unfold T) (refl (! = bool)) (use 1 0) (refl (! T)) (use 2 3) (eqmp 4 3) (refl (\\ p bool p)) (eqmp 5 6))"

truth-accepted : brief (judge (def_T ++ thm_TRUTH)) ≡ accepts 2
truth-accepted = refl

truth_is_T : named_in (judge (def_T ++ thm_TRUTH)) (codes "TRUTH") ≡ some (seq [] (const (codes "T") tnil))
truth_is_T = refl

-- a definition whose term has a type variable that the constant's type hides, and the same with the variable in that type
hidden_refused : brief (judge (def_T ++ codes "(def C bool ($ ($ (! = (-> 'a (-> 'a bool))) (\\ x 'a (\\ y 'a ($ ($ (! = 'a) x) y)))) (\\ x 'a (\\ y 'a (! T)))))")) ≡ refuses 2 0
hidden_refused = refl

shown_accepted : brief (judge (def_T ++ codes "(def C (-> 'a bool) (\\ z 'a ($ ($ (! = (-> 'a (-> 'a bool))) (\\ x 'a (\\ y 'a ($ ($ (! = 'a) x) y)))) (\\ x 'a (\\ y 'a (! T))))))")) ≡ accepts 2
shown_accepted = refl

-- a step that does not fit: p is no equation
eqmp_refused : brief (judge (codes "(thm a (assume (: p bool)) (eqmp 0 0))")) ≡ refuses 1 2
eqmp_refused = refl

-- λ over a variable that an assumption has free, and over one that none has
lam-refused : brief (judge (codes "(thm a (assume ($ ($ (! = 'a) (: x 'a)) (: y 'a))) (lam x 'a 0))")) ≡ refuses 1 2
lam-refused = refl

lam-accepted : brief (judge (codes "(thm a (refl (: x 'a)) (lam x 'a 0))")) ≡ accepts 1
lam-accepted = refl

-- the free y is not captured by the λ of the same name: on the right stands λ z. y
abbrev 'a : Ty
'a = tyvar (codes "'a")

beta_right : named_in (judge (codes "(thm a (beta ($ (\\ x 'a (\\ y 'a x)) (: y 'a))))")) (codes "a") ≡ some (seq [] (equal (fun 'a 'a) (app (lam 'a (lam 'a (bvar 1))) (fvar (codes "y") 'a)) (lam 'a (fvar (codes "y") 'a))))
beta_right = refl

empty_accepted : brief (judge []) ≡ accepts 0
empty_accepted = refl

bracket_missing : brief (judge (codes "(thm a (refl (: x 'a))")) ≡ breaks
bracket_missing = refl

-- VALUES, in a model where declared types have three elements and type variables too
abbrev three : Model
three = record { base_card = λ c. 2; base_value = λ c ns. 0 }

-- every variable has the value v
abbrev value_at : ℕ → Tm → ℕ
value_at v t = value [] three (consts three []) (λ a. 3) (λ x a. v) [] [] t

truth-value : value_at 0 truth ≡ 1
truth-value = refl

falsehood-value : value_at 0 falsehood ≡ 0
falsehood-value = refl

-- @ of "is the third element" is the third element
choice-value : value_at 2 (app (const w_choice (one 'a)) (lam 'a (equal 'a (bvar 0) (fvar (codes "x") 'a)))) ≡ 2
choice-value = refl

-- @ of what holds of nothing is the first element
choice_of_none : value_at 2 (app (const w_choice (one 'a)) (lam 'a falsehood)) ≡ 0
choice_of_none = refl
