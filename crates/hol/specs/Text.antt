-- From bytes to the verdict on a text.
use Rattle.std.specs.Prelude.{ℕ, zero, suc, ◌+◌, ◌-◌, ◌*◌, Bool, cond, not, ◌&&◌, ◌||◌, List, [], ◌∷◌, ◌++◌, length, codes, ◌==◌, nat_le}
use Rattle.std.proofs.Math.Option.{Option, some, none}
use Rattle.hol.specs.Base.{option, bind, guard, Word, same_word}
use Rattle.hol.specs.Syntax.{Ty, tyvar, tyapp, Tys, tnil, tcons, Tm, fvar, bvar, const, app, lam, TySubst, Subst, Seq}
use Rattle.hol.specs.Theory.{Decl, d_type, d_const, d_def, d_axiom, d_thm, Theory, is_tyvar, admissible}
use Rattle.hol.specs.Kernel.{Step, s_refl, s_trans, s_use, s_lam, s_beta, s_assume, s_eqmp, s_anti, s_inst, s_types, s_eta, s_some, s_unfold, s_known, step}

-- TOKENS: brackets and words
pub data Token : Type 0 where
  opens : Token
  closes : Token
  word : Word → Token

-- blank, line feed, return, tab
abbrev pub is_blank : ℕ → Bool
is_blank c = c == 32 || (c == 10 || (c == 13 || c == 9))

-- a byte that stands in words: no blank, no ; and no bracket
abbrev pub in_words : ℕ → Bool
in_words c = not (is_blank c || (c == 59 || (c == 40 || c == 41)))

-- where a reader stands: between words, in a word of which these bytes were read, or in a comment, which ; begins and only a line
-- feed ends
pub data Mode : Type 0 where
  gap : Mode
  in_word : Word → Mode
  comment : Mode

-- what one byte does: the tokens that are complete with it, and where the reader stands then
pub record Turn : Type 0 where
  pub out : List Token
  pub mode : Mode

abbrev pub turn : List Token → Mode → Turn
turn o m = record { out = o; mode = m }

-- a byte that continues no word and no comment, behind the tokens o
abbrev pub afresh : List Token → ℕ → Turn
afresh o c = cond (is_blank c) (turn o gap) (cond (c == 59) (turn o comment) (cond (c == 40) (turn (o ++ (opens ∷ [])) gap) (cond (c == 41) (turn (o ++ (closes ∷ [])) gap) (turn o (in_word (c ∷ []))))))

abbrev pub turns : Mode → ℕ → Turn
turns gap c = afresh [] c
turns (in_word w) c = cond (in_words c) (turn [] (in_word (w ++ (c ∷ [])))) (afresh (word w ∷ []) c)
turns comment c = cond (c == 10) (turn [] gap) (turn [] comment)

-- the end of the text ends a word
abbrev pub at_end : Mode → List Token
at_end gap = []
at_end (in_word w) = word w ∷ []
at_end comment = []

abbrev pub tokens : Mode → List ℕ → List Token
tokens m [] = at_end m
tokens m (c ∷ cs) = let t = turns m c in t.out ++ tokens t.mode cs

-- S-EXPRESSIONS: a word, or a bracket around S-expressions
mutual
  pub data Sexp : Type 0 where
    atom : Word → Sexp
    list : Sexps → Sexp

  pub data Sexps : Type 0 where
    nil : Sexps
    cons : Sexp → Sexps → Sexps

abbrev pub count_sexps : Sexps → ℕ
count_sexps nil = 0
count_sexps (cons t ts) = 1 + count_sexps ts

-- the first, turned round, before the second
abbrev pub onto : Sexps → Sexps → Sexps
onto nil ts = ts
onto (cons t us) ts = onto us (cons t ts)

-- A stack has, for each open bracket, what was read in it so far, the last first; the innermost bracket first; at the bottom what
-- stands outside of all.
abbrev pub add : Sexp → List Sexps → List Sexps
add t [] = []
add t (us ∷ uss) = cons t us ∷ uss

abbrev pub close : List Sexps → Option (List Sexps)
close [] = none
close (us ∷ []) = none
close (us ∷ vs ∷ uss) = some (cons (list (onto us nil)) vs ∷ uss)

-- nothing where brackets do not match
abbrev pub parse : List Token → List Sexps → Option Sexps
parse [] [] = none
parse [] (us ∷ []) = some (onto us nil)
parse [] (us ∷ vs ∷ uss) = none
parse (opens ∷ ps) uss = parse ps (nil ∷ uss)
parse (closes ∷ ps) uss = bind (close uss) (λ vss. parse ps vss)
parse (word w ∷ ps) uss = parse ps (add (atom w) uss)

-- the S-expressions of a text
abbrev pub sexps : List ℕ → Option Sexps
sexps t = parse (tokens gap t) (nil ∷ [])

-- ARGUMENTS: exactly one, two or three, or one and the rest
abbrev pub word_of : Sexp → Option Word
word_of (atom w) = some w
word_of (list ts) = none

abbrev pub inside_of : Sexp → Option Sexps
inside_of (atom w) = none
inside_of (list ts) = some ts

abbrev pub one_of : {A : Type 0} → Sexps → (Sexp → Option A) → Option A
one_of nil f = none
one_of (cons t nil) f = f t
one_of (cons t (cons u ts)) f = none

abbrev pub two_of : {A : Type 0} → Sexps → (Sexp → Sexp → Option A) → Option A
two_of nil f = none
two_of (cons t nil) f = none
two_of (cons t (cons u nil)) f = f t u
two_of (cons t (cons u (cons v ts))) f = none

abbrev pub three_of : {A : Type 0} → Sexps → (Sexp → Sexp → Sexp → Option A) → Option A
three_of nil f = none
three_of (cons t nil) f = none
three_of (cons t (cons u nil)) f = none
three_of (cons t (cons u (cons v nil))) f = f t u v
three_of (cons t (cons u (cons v (cons w ts)))) f = none

abbrev pub first_of : {A : Type 0} → Sexps → (Sexp → Sexps → Option A) → Option A
first_of nil f = none
first_of (cons t ts) f = f t ts

-- TYPES: 'a, a type variable; name; (name A ..)
abbrev pub read_type_word : Word → Ty
read_type_word w = cond (is_tyvar w) (tyvar w) (tyapp w tnil)

abbrev mutual
  pub read_type : Sexp → Option Ty
  read_type (atom w) = some (read_type_word w)
  read_type (list ts) = read_type_list ts

  pub read_type_list : Sexps → Option Ty
  read_type_list nil = none
  read_type_list (cons t ts) = bind (word_of t) (λ c. guard (not (is_tyvar c)) (bind (read_types ts) (λ as₁. some (tyapp c as₁))))

  pub read_types : Sexps → Option Tys
  read_types nil = some tnil
  read_types (cons t ts) = bind (read_type t) (λ a. bind (read_types ts) (λ as₁. some (tcons a as₁)))

-- TERMS: x, the variable of the innermost λ so named; (: x A), a free variable; (! c A ..), a constant; ($ f x), an application;
-- (\ x A t), a λ. xs has the names of the λs around, the innermost first.
abbrev pub index_of : Word → List Word → ℕ → Option ℕ
index_of w [] n = none
index_of w (x ∷ xs) n = cond (same_word w x) (some n) (index_of w xs (n + 1))

abbrev pub read_free : Sexps → Option Tm
read_free ts = two_of ts (λ u v. bind (word_of u) (λ x. bind (read_type v) (λ a. some (fvar x a))))

abbrev pub read_const : Sexps → Option Tm
read_const ts = first_of ts (λ u us. bind (word_of u) (λ c. bind (read_types us) (λ as₁. some (const c as₁))))

-- `go` reads the parts of a term
abbrev pub read_app : (List Word → Sexp → Option Tm) → List Word → Sexps → Option Tm
read_app go xs ts = two_of ts (λ u v. bind (go xs u) (λ f. bind (go xs v) (λ x. some (app f x))))

abbrev pub read_lam : (List Word → Sexp → Option Tm) → List Word → Sexps → Option Tm
read_lam go xs ts = three_of ts (λ u v w. bind (word_of u) (λ x. bind (read_type v) (λ a. bind (go (x ∷ xs) w) (λ b. some (lam a b)))))

abbrev pub read_term_by : (List Word → Sexp → Option Tm) → List Word → Word → Sexps → Option Tm
read_term_by go xs m ts =
    cond (same_word m (codes ":")) (read_free ts)
    (cond (same_word m (codes "!")) (read_const ts)
    (cond (same_word m (codes "$")) (read_app go xs ts)
    (cond (same_word m (codes "\\")) (read_lam go xs ts) none)))

-- n is at least how deep brackets stand in brackets: the length of the text is
abbrev pub read_term : ℕ → List Word → Sexp → Option Tm
read_term n xs (atom w) = bind (index_of w xs 0) (λ k. some (bvar k))
read_term zero xs (list ts) = none
read_term (suc n) xs (list nil) = none
read_term (suc n) xs (list (cons t ts)) = bind (word_of t) (λ m. read_term_by (λ ys u. read_term n ys u) xs m ts)

-- NUMBERS: decimal, of any length, at least one digit
abbrev pub digits : ℕ → Word → Option ℕ
digits n [] = some n
digits n (c ∷ cs) = guard (nat_le 48 c && nat_le c 57) (digits (n * 10 + (c - 48)) cs)

abbrev pub number : Word → Option ℕ
number [] = none
number (c ∷ cs) = digits 0 (c ∷ cs)

abbrev pub read_number : Sexp → Option ℕ
read_number t = bind (word_of t) number

-- ENTRIES: (x A t) .. of inst, ('a A) .. of types
abbrev pub read_subst : ℕ → Sexps → Option Subst
read_subst n nil = some []
read_subst n (cons t ts) = bind (inside_of t) (λ us. three_of us (λ u v w. bind (word_of u) (λ x. bind (read_type v) (λ a. bind (read_term n [] w) (λ s. bind (read_subst n ts) (λ es. some (record { name = x; ty = a; tm = s } ∷ es)))))))

abbrev pub read_ty_subst : Sexps → Option TySubst
read_ty_subst nil = some []
read_ty_subst (cons t ts) = bind (inside_of t) (λ us. two_of us (λ u v. bind (word_of u) (λ x. guard (is_tyvar x) (bind (read_type v) (λ a. bind (read_ty_subst ts) (λ es. some (record { name = x; ty = a } ∷ es)))))))

-- STEPS: a bracket around the step's word and its arguments
abbrev pub with_term : ℕ → (Tm → Step) → Sexps → Option Step
with_term n f ts = one_of ts (λ t. bind (read_term n [] t) (λ s. some (f s)))

abbrev pub with_numbers : (ℕ → ℕ → Step) → Sexps → Option Step
with_numbers f ts = two_of ts (λ t u. bind (read_number t) (λ i. bind (read_number u) (λ j. some (f i j))))

abbrev pub read_step_by : ℕ → Word → Sexps → Option Step
read_step_by n w ts =
    cond (same_word w (codes "refl")) (with_term n s_refl ts)
    (cond (same_word w (codes "trans")) (with_numbers s_trans ts)
    (cond (same_word w (codes "use")) (with_numbers s_use ts)
    (cond (same_word w (codes "lam")) (three_of ts (λ t u v. bind (word_of t) (λ x. bind (read_type u) (λ a. bind (read_number v) (λ i. some (s_lam x a i))))))
    (cond (same_word w (codes "beta")) (with_term n s_beta ts)
    (cond (same_word w (codes "assume")) (with_term n s_assume ts)
    (cond (same_word w (codes "eqmp")) (with_numbers s_eqmp ts)
    (cond (same_word w (codes "anti")) (with_numbers s_anti ts)
    (cond (same_word w (codes "inst")) (first_of ts (λ t us. bind (read_number t) (λ i. bind (read_subst n us) (λ es. some (s_inst i es)))))
    (cond (same_word w (codes "types")) (first_of ts (λ t us. bind (read_number t) (λ i. bind (read_ty_subst us) (λ es. some (s_types i es)))))
    (cond (same_word w (codes "eta")) (with_term n s_eta ts)
    (cond (same_word w (codes "some")) (two_of ts (λ t u. bind (read_term n [] t) (λ p. bind (read_term n [] u) (λ x. some (s_some p x)))))
    (cond (same_word w (codes "unfold")) (first_of ts (λ t us. bind (word_of t) (λ c. bind (read_types us) (λ as₁. some (s_unfold c as₁)))))
    (cond (same_word w (codes "known")) (one_of ts (λ t. bind (word_of t) (λ c. some (s_known c)))) none)))))))))))))

abbrev pub read_step : ℕ → Sexp → Option Step
read_step n t = bind (inside_of t) (λ ts. first_of ts (λ u us. bind (word_of u) (λ w. read_step_by n w us)))

-- PROOFS: the sequents that the steps find, up to the first that is no step or does not fit, and what is left then
pub record Run : Type 0 where
  pub found : List Seq
  pub rest : Sexps

abbrev pub run_steps : ℕ → Theory → List Seq → Sexps → Run
run_steps n th ps nil = record { found = ps; rest = nil }
run_steps n th ps (cons t ts) = option (bind (read_step n t) (λ s. step th ps s)) (record { found = ps; rest = cons t ts }) (λ p. run_steps n th (ps ++ (p ∷ [])) ts)

abbrev pub last : List Seq → Option Seq
last [] = none
last (p ∷ []) = some p
last (p ∷ q ∷ ps) = last (q ∷ ps)

-- COMMANDS. A command declares something, or fails at one of its steps, from 1; 0 is the command itself.
pub data Outcome : Type 0 where
  fails : ℕ → Outcome
  declares : Decl → Outcome

abbrev pub if_admissible : Theory → Option Decl → Outcome
if_admissible th none = fails 0
if_admissible th (some d) = cond (admissible th d) (declares d) (fails 0)

-- the theorem w, once its steps were run; its name is looked at last
abbrev pub finish : Theory → Word → List Seq → Sexps → Outcome
finish th w ps nil = if_admissible th (bind (last ps) (λ p. some (d_thm w p)))
finish th w ps (cons t ts) = fails (1 + length ps)

abbrev pub prove : ℕ → Theory → Word → Sexps → Outcome
prove n th w ts = let r = run_steps n th [] ts in finish th w r.found r.rest

abbrev pub theorem : ℕ → Theory → Sexps → Outcome
theorem n th nil = fails 0
theorem n th (cons t ts) = option (word_of t) (fails 0) (λ w. prove n th w ts)

abbrev pub command_by : ℕ → Theory → Word → Sexps → Outcome
command_by n th m ts =
    cond (same_word m (codes "type")) (if_admissible th (one_of ts (λ t. bind (word_of t) (λ c. some (d_type c)))))
    (cond (same_word m (codes "const")) (if_admissible th (two_of ts (λ t u. bind (word_of t) (λ c. bind (read_type u) (λ a. some (d_const c a))))))
    (cond (same_word m (codes "def")) (if_admissible th (three_of ts (λ t u v. bind (word_of t) (λ c. bind (read_type u) (λ a. bind (read_term n [] v) (λ s. some (d_def c a s)))))))
    (cond (same_word m (codes "axiom")) (if_admissible th (two_of ts (λ t u. bind (word_of t) (λ w. bind (read_term n [] u) (λ s. some (d_axiom w s))))))
    (cond (same_word m (codes "thm")) (theorem n th ts) (fails 0)))))

abbrev pub command : ℕ → Theory → Sexp → Outcome
command n th (atom w) = fails 0
command n th (list nil) = fails 0
command n th (list (cons t ts)) = option (word_of t) (fails 0) (λ m. command_by n th m ts)

-- VERDICTS. broken: brackets do not match. refused i j: the command i, from 1, fails at j. accepted n th: all n commands are
-- accepted, and th is what they declare.
pub data Verdict : Type 0 where
  broken : Verdict
  refused : ℕ → ℕ → Verdict
  accepted : ℕ → Theory → Verdict

-- i commands were accepted so far
abbrev pub after : Outcome → ℕ → (Decl → Verdict) → Verdict
after (fails j) i f = refused (i + 1) j
after (declares d) i f = f d

abbrev pub run : ℕ → ℕ → Theory → Sexps → Verdict
run n i th nil = accepted i th
run n i th (cons t ts) = after (command n th t) i (λ d. run n (i + 1) (d ∷ th) ts)

-- the verdict on a text
abbrev pub judge : List ℕ → Verdict
judge t = option (sexps t) broken (λ ts. run (length t) 0 [] ts)
