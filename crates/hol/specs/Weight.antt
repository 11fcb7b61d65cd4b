-- How large the terms of a text are. The bound on the words that must be lent is stated in these sizes, and nothing else is.
use Rattle.std.specs.Prelude.{ℕ, ◌+◌, Bool, false, cond, List, [], ◌∷◌, ◌++◌, length, codes}
use Rattle.std.proofs.Math.Option.{Option}
use Rattle.hol.specs.Base.{Word, option, nth, same_word}
use Rattle.hol.specs.Syntax.{Ty, tyvar, tyapp, Tys, tnil, tcons, Tm, fvar, bvar, const, app, lam, Subst, Seq}
use Rattle.hol.specs.Theory.{Decl, Theory, const_at}
use Rattle.hol.specs.Kernel.{Step, s_refl, s_trans, s_use, s_lam, s_beta, s_assume, s_eqmp, s_anti, s_inst, s_types, s_eta, s_some, s_unfold, s_known, step}
use Rattle.hol.specs.Text.{Sexp, atom, list, Sexps, nil, cons, sexps, word_of, read_term, read_step, Outcome, fails, declares, command}

-- how many names a type has
abbrev mutual
  pub size_ty : Ty → ℕ
  size_ty (tyvar a) = 1
  size_ty (tyapp c as₁) = 1 + size_tys as₁

  pub size_tys : Tys → ℕ
  size_tys tnil = 0
  size_tys (tcons a as₁) = size_ty a + size_tys as₁

abbrev pub size_var : Option Ty → ℕ
size_var o = option o 1 (λ a. 1 + size_ty a)

-- the size of a term, each variable and each constant with its type
abbrev pub size_tm : Theory → List Ty → Tm → ℕ
size_tm th g (fvar x a) = 1 + size_ty a
size_tm th g (bvar n) = size_var (nth g n)
size_tm th g (const c as₁) = size_tys as₁ + size_var (const_at th c as₁)
size_tm th g (app f x) = 1 + (size_tm th g f + size_tm th g x)
size_tm th g (lam a t) = 1 + (size_ty a + size_tm th (a ∷ g) t)

abbrev pub size_all : Theory → List Tm → ℕ
size_all th [] = 0
size_all th (t ∷ ts) = size_tm th [] t + size_all th ts

abbrev pub entry_terms : Subst → List Tm
entry_terms [] = []
entry_terms (e ∷ es) = e.tm ∷ entry_terms es

-- the terms that stand in a step
abbrev pub stated : Step → List Tm
stated (s_refl t) = t ∷ []
stated (s_trans i j) = []
stated (s_use i j) = []
stated (s_lam x a i) = []
stated (s_beta t) = t ∷ []
stated (s_assume t) = t ∷ []
stated (s_eqmp i j) = []
stated (s_anti i j) = []
stated (s_inst i es) = entry_terms es
stated (s_types i es) = []
stated (s_eta t) = t ∷ []
stated (s_some p x) = p ∷ x ∷ []
stated (s_unfold c as₁) = []
stated (s_known w) = []

-- the terms of a proof: what its steps state, and the sequents that they find
abbrev pub proof_terms : ℕ → Theory → List Seq → Sexps → List Tm
proof_terms n th ps nil = []
proof_terms n th ps (cons t ts) = option (read_step n t) [] (λ s. stated s ++ option (step th ps s) [] (λ p. (p.concl ∷ p.hyps) ++ proof_terms n th (ps ++ (p ∷ [])) ts))

-- whatever stands from a command's third place on and can be read as a term, in a command of any kind
abbrev pub own_terms : ℕ → Sexps → List Tm
own_terms n nil = []
own_terms n (cons t ts) = option (read_term n [] t) [] (λ s. s ∷ []) ++ own_terms n ts

abbrev pub is_thm : Option Word → Bool
is_thm o = option o false (same_word (codes "thm"))

abbrev pub command_terms : ℕ → Theory → Sexp → List Tm
command_terms n th (atom w) = []
command_terms n th (list nil) = []
command_terms n th (list (cons t nil)) = []
command_terms n th (list (cons t (cons u ts))) = own_terms n ts ++ cond (is_thm (word_of t)) (proof_terms n th [] ts) []

abbrev pub on_declares : Outcome → (Decl → ℕ) → ℕ
on_declares (fails j) f = 0
on_declares (declares d) f = f d

-- the weight of the commands ts, up to the first that is refused
abbrev pub weigh : ℕ → Theory → Sexps → ℕ
weigh n th nil = 0
weigh n th (cons t ts) = size_all th (command_terms n th t) + on_declares (command n th t) (λ d. weigh n (d ∷ th) ts)

-- the weight of a text; one whose brackets do not match has none
abbrev pub weight : List ℕ → ℕ
weight t = option (sexps t) 0 (weigh (length t) [])
