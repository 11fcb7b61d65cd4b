-- The corners of the text format, each by computation.
use Rattle.std.proofs.Common.{◌≡◌, [], ◌∷◌, ◌++◌, codes, refl}
use mathlib.Core.Option.{some}
use Rattle.hol.specs.Syntax.{tyvar, Tm, fvar, lam, bvar, bool, fun, equal}
use Rattle.hol.specs.Theory.{d_const, d_type}
use Rattle.hol.specs.Kernel.{seq}
use Rattle.hol.specs.Text.{opens, closes, word, gap, tokens, accepted, judge}
use Rattle.hol.proofs.Cases.{accepts, refuses, breaks, brief, named_in}

-- ; ends a word and begins a comment, which a return does not end and a line feed does
comment_ends : tokens gap (codes "ab;c)" ++ (13 ∷ codes ")" ++ (10 ∷ codes "d"))) ≡ word (codes "ab") ∷ word (codes "d") ∷ []
comment_ends = refl

-- blanks are 32, 10, 13 and 9; any other byte, NUL and those above 127 too, is a word's
blanks_part : tokens gap (97 ∷ 32 ∷ 98 ∷ 10 ∷ 99 ∷ 13 ∷ 100 ∷ 9 ∷ 101 ∷ 0 ∷ 11 ∷ 255 ∷ []) ≡ word (97 ∷ []) ∷ word (98 ∷ []) ∷ word (99 ∷ []) ∷ word (100 ∷ []) ∷ word (101 ∷ 0 ∷ 11 ∷ 255 ∷ []) ∷ []
blanks_part = refl

brackets_part : tokens gap (codes "a(b)c") ≡ word (codes "a") ∷ opens ∷ word (codes "b") ∷ closes ∷ word (codes "c") ∷ []
brackets_part = refl

-- (bool) is the type bool
bool_in_brackets : judge (codes "(const c (bool))") ≡ accepted 1 (d_const (codes "c") bool ∷ [])
bool_in_brackets = refl

-- ' alone is an ordinary name; a type variable takes no arguments, and is no type's name
quote_alone : judge (codes "(type ')") ≡ accepted 1 (d_type (codes "'") ∷ [])
quote_alone = refl

tyvar_no_type : brief (judge (codes "(type 'a)")) ≡ refuses 1 0
tyvar_no_type = refl

tyvar_no_arguments : brief (judge (codes "(const c ('a))")) ≡ refuses 1 0
tyvar_no_arguments = refl

-- where a word is asked for, any word will do: a variable may be named like a constant, a number or a type variable
any_word : brief (judge (codes "(thm = (refl (: 0 bool)) (lam 'a bool 0))")) ≡ accepts 1
any_word = refl

-- a bound variable is that of the innermost λ so named; a word that no λ has is no term
innermost : named_in (judge (codes "(thm a (refl (\\ x bool (\\ x 'a x))))")) (codes "a") ≡ some (seq [] (let t : Tm = lam bool (lam (tyvar (codes "'a")) (bvar 0)) in equal (fun bool (fun (tyvar (codes "'a")) (tyvar (codes "'a")))) t t))
innermost = refl

unbound : brief (judge (codes "(thm a (refl x))")) ≡ refuses 1 1
unbound = refl

-- step numbers have any number of digits and leading zeros; one that names no earlier step does not fit
leading_zeros : brief (judge (codes "(thm a (refl (: x 'a)) (trans 00 0000000000000000000000000))")) ≡ accepts 1
leading_zeros = refl

too_large : brief (judge (codes "(thm a (refl (: x 'a)) (trans 0 18446744073709551616))")) ≡ refuses 1 2
too_large = refl

its_own_number : brief (judge (codes "(thm a (refl (: x 'a)) (trans 0 1))")) ≡ refuses 1 2
its_own_number = refl

no_number : brief (judge (codes "(thm a (refl (: x 'a)) (trans 0 +0))")) ≡ refuses 1 2
no_number = refl

-- every entry of inst and of types must fit, used or not, also the second for a name; of two for one name the first counts
unused_entry : brief (judge (codes "(thm a (refl (: x 'a)) (inst 0 (y bool (: x 'a))))")) ≡ refuses 1 2
unused_entry = refl

second-entry : brief (judge (codes "(thm a (refl (: x 'a)) (types 0 ('a bool) ('a nowhere)))")) ≡ refuses 1 2
second-entry = refl

first_counts : named_in (judge (codes "(thm a (refl (: x bool)) (inst 0 (x bool (: y bool)) (x bool (: z bool))))")) (codes "a") ≡ some (seq [] (equal bool (fvar (codes "y") bool) (fvar (codes "y") bool)))
first_counts = refl

no_entries : brief (judge (codes "(thm a (refl (: x 'a)) (inst 0) (types 1))")) ≡ accepts 1
no_entries = refl

-- a word, () and an unknown word are commands, and refused at 0
top-word : brief (judge (codes "x")) ≡ refuses 1 0
top-word = refl

top_empty : brief (judge (codes "()")) ≡ refuses 1 0
top_empty = refl

top_unknown : brief (judge (codes "(type a)(lemma b)")) ≡ refuses 2 0
top_unknown = refl

top-list : brief (judge (codes "((type a))")) ≡ refuses 1 0
top-list = refl

-- missing or extra arguments make a command refused at 0, and a step no step
too_few : brief (judge (codes "(const c)")) ≡ refuses 1 0
too_few = refl

too_many : brief (judge (codes "(type c d)")) ≡ refuses 1 0
too_many = refl

step_too_many : brief (judge (codes "(thm a (refl (: x 'a) (: y 'a)))")) ≡ refuses 1 1
step_too_many = refl

step-word : brief (judge (codes "(thm a refl)")) ≡ refuses 1 1
step-word = refl

-- a theorem has a word for its name, or its steps are not looked at; it has a step; its name is looked at behind its steps
thm_list_name : brief (judge (codes "(thm (a) (nonsense))")) ≡ refuses 1 0
thm_list_name = refl

thm_no_step : brief (judge (codes "(thm a)")) ≡ refuses 1 0
thm_no_step = refl

thm_old_name : brief (judge (codes "(axiom a (: p bool))(thm a (known a))")) ≡ refuses 2 0
thm_old_name = refl

thm_old_name_bad_step : brief (judge (codes "(axiom a (: p bool))(thm a (known a) (eqmp 0 0))")) ≡ refuses 2 2
thm_old_name_bad_step = refl

-- types, constants, and axioms with theorems have names of their own
kinds_apart : brief (judge (codes "(type a)(const a a)(axiom a (: p bool))")) ≡ accepts 3
kinds_apart = refl

-- broken goes before refused
broken-first : brief (judge (codes "x (")) ≡ breaks
broken-first = refl

broken-close : brief (judge (codes "x ) (")) ≡ breaks
broken-close = refl
