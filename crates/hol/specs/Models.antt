-- What terms are worth where every type has finitely many elements. The elements of a type with n elements are the numbers below n.
use Rattle.std.specs.Prelude.{◌≡◌, ℕ, zero, suc, ◌+◌, ◌*◌, ◌/◌, ◌%◌, ◌^◌, ◌<◌, Bool, true, cond, List, [], ◌∷◌, ◌==◌}
use Rattle.std.proofs.Math.Option.{Option}
use Rattle.hol.specs.Base.{option, nth, all, Word, same_word}
use Rattle.hol.specs.Syntax.{Ty, tyvar, tyapp, Tys, tnil, tcons, Tm, fvar, bvar, const, app, lam, w_bool, w_eq, w_choice, Arrow, arrow, tyvars_ty}
use Rattle.hol.specs.Theory.{d_type, d_const, d_def, d_axiom, d_thm, Theory, Declared, type_in}

-- A model says how many elements each declared type has, and what each constant is worth of which nothing is said:
--   base_card c       one less than the number of elements of the type c, so that there is at least one
--   base_value c ns   the value of the constant c, where the type variables of its type have ns elements
pub record Model : Type 0 where
  pub base_card : Word → ℕ
  pub base_value : Word → List ℕ → ℕ

-- cardinalities for type variables; values for free variables
abbrev pub Cards : Type 0
Cards = Word → ℕ

abbrev pub Values : Type 0
Values = Word → Ty → ℕ

-- CARDINALITY. bool has 2 elements, and A -> B has b ^ a where A has a and B has b. (No type that is ok has 1 or 3 arguments.)
abbrev pub card_app : Model → Word → List ℕ → ℕ
card_app m c [] = cond (same_word c w_bool) 2 (suc (m.base_card c))
card_app m c (a ∷ []) = 1
card_app m c (a ∷ b ∷ []) = b ^ a
card_app m c (a ∷ b ∷ d ∷ ds) = 1

abbrev mutual
  pub card_ty : Model → Cards → Ty → ℕ
  card_ty m z (tyvar a) = z a
  card_ty m z (tyapp c as₁) = card_app m c (card_tys m z as₁)

  pub card_tys : Model → Cards → Tys → List ℕ
  card_tys m z tnil = []
  card_tys m z (tcons a as₁) = card_ty m z a ∷ card_tys m z as₁

-- FUNCTIONS. A function from n elements to b elements is coded by the number whose digits in base b are its values: the value at x
-- is the digit at place x, the value at 0 being the lowest digit.
abbrev pub encode : ℕ → (ℕ → ℕ) → ℕ → ℕ
encode b f zero = 0
encode b f (suc n) = f n * b ^ n + encode b f n

-- the value at x of the function with code f, into b elements
abbrev pub digit : ℕ → ℕ → ℕ → ℕ
digit b f x = f / b ^ x % b

-- false is 0 and true is 1
abbrev pub bit : Bool → ℕ
bit b = cond b 1 0

-- the code of equality on n elements: a function whose values are functions
abbrev pub code_eq : ℕ → ℕ
code_eq n = encode (2 ^ n) (λ x. encode 2 (λ y. bit (x == y)) n) n

-- the least of k, k + 1, .. (n of them) at which the predicate with code p is true, or 0
abbrev pub least : ℕ → ℕ → ℕ → ℕ
least p zero k = 0
least p (suc n) k = cond (digit 2 p k == 1) k (least p n (k + 1))

-- the code of choice on n elements: from a predicate to the least element at which it is true, or 0
abbrev pub code_choice : ℕ → ℕ
code_choice n = encode n (λ p. least p n 0) (2 ^ n)

-- VALUES of declared constants, by the cardinalities of the types that stand for their type variables
abbrev pub Consts : Type 0
Consts = Word → List ℕ → ℕ

abbrev pub head_card : List ℕ → ℕ
head_card [] = 1
head_card (n ∷ ns) = n

abbrev pub const_value : Consts → Word → List ℕ → ℕ
const_value k c ns = cond (same_word c w_eq) (code_eq (head_card ns)) (cond (same_word c w_choice) (code_choice (head_card ns)) (k c ns))

abbrev pub at_arrow : Option Ty → (Arrow → ℕ) → ℕ
at_arrow o f = option o 0 (λ a. option (arrow a) 0 f)

-- the value of a term; g has the types of the λs around it, vs the values of their variables. A λ is the code of its body's values,
-- an application reads off a digit.
abbrev pub value : Theory → Model → Consts → Cards → Values → List Ty → List ℕ → Tm → ℕ
value th m k z w g vs (fvar x a) = w x a
value th m k z w g vs (bvar n) = option (nth vs n) 0 (λ v. v)
value th m k z w g vs (const c as₁) = const_value k c (card_tys m z as₁)
value th m k z w g vs (app f x) = at_arrow (type_in th g f) (λ r. digit (card_ty m z r.cod) (value th m k z w g vs f) (value th m k z w g vs x))
value th m k z w g vs (lam a t) = option (type_in th (a ∷ g) t) 0 (λ b. encode (card_ty m z b) (λ n. value th m k z w (a ∷ g) (n ∷ vs) t) (card_ty m z a))

-- the first name has the first cardinality, and so on; any other has 1
abbrev pub cards_of : List Word → List ℕ → Cards
cards_of [] ns a = 1
cards_of (w ∷ ws) [] a = 1
cards_of (w ∷ ws) (n ∷ ns) a = cond (same_word a w) n (cards_of ws ns a)

-- constants by the declarations: one of which nothing is said has the model's value, brought below its type's cardinality; a defined
-- one has the value of its term, under the declarations before it
abbrev pub consts : Model → Theory → Consts
consts m [] c ns = 0
consts m (d_type d ∷ th) c ns = consts m th c ns
consts m (d_const d a ∷ th) c ns = cond (same_word c d) (m.base_value c ns % card_ty m (cards_of (tyvars_ty a []) ns) a) (consts m th c ns)
consts m (d_def d a t ∷ th) c ns = cond (same_word c d) (value th m (consts m th) (cards_of (tyvars_ty a []) ns) (λ x b. 0) [] [] t) (consts m th c ns)
consts m (d_axiom d t ∷ th) c ns = consts m th c ns
consts m (d_thm d s ∷ th) c ns = consts m th c ns

-- TRUTH. A term holds if its value is 1.
abbrev pub holds : Theory → Model → Cards → Values → Tm → Bool
holds th m z w t = (value th m (consts m th) z w [] [] t) == 1

-- every type variable has an element, and every free variable is worth an element of its type
pub record Valuation (m : Model) (z : Cards) (w : Values) : Type 0 where
  pub inhabited : (a : Word) → 0 < z a
  pub fits : (x : Word) (a : Ty) → w x a < card_ty m z a

-- hs ⊢ t is valid in a model: under every valuation under which each of hs holds, t does
abbrev pub Valid : Theory → Model → List Tm → Tm → Type 0
Valid th m hs t = (z : Cards) (w : Values) → Valuation m z w → all (holds th m z w) hs ≡ true → holds th m z w t ≡ true

-- a model satisfies a theory if its axioms are valid in it
abbrev pub Satisfies : Theory → Model → Type 0
Satisfies th m = (c : Word) (t : Tm) → Declared th (d_axiom c t) → Valid th m [] t
