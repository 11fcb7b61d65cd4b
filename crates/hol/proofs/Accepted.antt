-- What is accepted is a well-formed theory.
use Rattle.std.proofs.Common.{◌≡◌, ℕ, ◌+◌, true, List, [], ◌∷◌, ◌++◌, length, codes, inl, inr}
use mathlib.Core.Option.{Option, some}
use Rattle.hol.specs.Base.{Word, bind, same_word}
use Rattle.hol.specs.Syntax.{Seq}
use Rattle.hol.specs.Theory.{Decl, Theory, admissible}
use Rattle.hol.specs.Kernel.{step}
use Rattle.hol.specs.Says.{Justified, Wf, wf_nil, wf_cons, AllDerived, none_yet, and_this, AcceptedGood}
use Rattle.hol.specs.Text.{Sexp, atom, list, Sexps, nil, cons, sexps, word_of, one_of, two_of, three_of, read_type, read_term, read_step, Run, run_steps, last, Outcome, fails, declares, if_admissible, finish, prove, theorem, command_by, command, Verdict, broken, refused, accepted, after, run, judge}
use Rattle.hol.proofs.Tools.{◌>>=◌, decided, some_same, none_some, bound, Each, each_none, each_some, each_bind, option_of, cond_of}
use Rattle.hol.proofs.Steps.{Derived, steps_sound}

-- OUTCOMES: what a command declares is admissible, and justified
data Fine (th : Theory) : Outcome → Type 0 where
  fine_fails : {j : ℕ} → Fine th (fails j)
  fine_declares : {d : Decl} → admissible th d ≡ true → Justified th d → Fine th (declares d)

-- a declaration that was read, if one was, is justified
if_fine : {th : Theory} {o : Option Decl} → Each (Justified th) o → Fine th (if_admissible th o)
if_fine each_none = fine_fails
if_fine {th} (each_some {x = d} j) =
    elim (decided (admissible th d)) [ inl e ↦ rw e (fine_declares e j) | inr e ↦ rw e fine_fails ]

-- whatever is read of one, two or three arguments has P
each_one : {A : Type 0} {P : A → Type 0} (ts : Sexps) (f : Sexp → Option A) → ((t : Sexp) → Each P (f t)) → Each P (one_of ts f)
each_one nil f h = each_none
each_one (cons t nil) f h = h t
each_one (cons t (cons u ts)) f h = each_none

each_two : {A : Type 0} {P : A → Type 0} (ts : Sexps) (f : Sexp → Sexp → Option A) → ((t u : Sexp) → Each P (f t u))
    → Each P (two_of ts f)
each_two nil f h = each_none
each_two (cons t nil) f h = each_none
each_two (cons t (cons u nil)) f h = h t u
each_two (cons t (cons u (cons v ts))) f h = each_none

each_three : {A : Type 0} {P : A → Type 0} (ts : Sexps) (f : Sexp → Sexp → Sexp → Option A) → ((t u v : Sexp) → Each P (f t u v))
    → Each P (three_of ts f)
each_three nil f h = each_none
each_three (cons t nil) f h = each_none
each_three (cons t (cons u nil)) f h = each_none
each_three (cons t (cons u (cons v nil))) f h = h t u v
each_three (cons t (cons u (cons v (cons x ts)))) f h = each_none

-- PROOFS: all that the steps find can be derived
derived-more : {th : Theory} {ps : List Seq} (p : Seq) → AllDerived th ps → Derived th p → AllDerived th (ps ++ (p ∷ []))
derived-more p none_yet d = and_this d none_yet
derived-more p (and_this e es) d = and_this e (derived-more p es d)

last-derived : {th : Theory} {ps : List Seq} → AllDerived th ps → {p : Seq} → last ps ≡ some p → Derived th p
last-derived none_yet e = none_some e
last-derived {th} (and_this d none_yet) e = rw (some_same e) at d
last-derived (and_this d (and_this f fs)) e = last-derived (and_this f fs) e

module _ (n : ℕ) (th : Theory) (w : Wf th) where
  run-derived : (ts : Sexps) {ps : List Seq} → AllDerived th ps → AllDerived th (run_steps n th ps ts).found
  run-derived nil ds = ds
  run-derived (cons t ts) {ps} ds =
      option_of (λ (r : Run). AllDerived th r.found) (bind (read_step n t) (λ s. step th ps s)) _ _ ds
      (λ p e. do
        (s, s_is, p_is) ← bound (read_step n t) _ e
        run-derived ts (derived-more p ds (steps_sound th ps s p w ds p_is)))

  finish_fine : (v : Word) {ps : List Seq} (ts : Sexps) → AllDerived th ps → Fine th (finish th v ps ts)
  finish_fine v {ps} nil ds = if_fine (each_bind (last ps) _ (λ p e. each_some (last-derived ds e)))
  finish_fine v (cons t ts) ds = fine_fails

  theorem_fine : (ts : Sexps) → Fine th (theorem n th ts)
  theorem_fine nil = fine_fails
  theorem_fine (cons t ts) =
      option_of (Fine th) (word_of t) (fails 0) (λ v. prove n th v ts) fine_fails
      (λ v e. finish_fine v (run_steps n th [] ts).rest (run-derived ts none_yet))

  -- COMMANDS
  by_fine : (m : Word) (ts : Sexps) → Fine th (command_by n th m ts)
  by_fine m ts =
      cond_of (Fine th) (same_word m (codes "type")) _ _
      (if_fine (each_one ts _ (λ t. each_bind (word_of t) _ (λ c e. each_some tt))))
      (cond_of (Fine th) (same_word m (codes "const")) _ _
      (if_fine (each_two ts _ (λ t u. each_bind (word_of t) _ (λ c e. each_bind (read_type u) _ (λ a f. each_some tt)))))
      (cond_of (Fine th) (same_word m (codes "def")) _ _
      (if_fine (each_three ts _ (λ t u v. each_bind (word_of t) _ (λ c e. each_bind (read_type u) _ (λ a f.
      each_bind (read_term n [] v) _ (λ s g. each_some tt))))))
      (cond_of (Fine th) (same_word m (codes "axiom")) _ _
      (if_fine (each_two ts _ (λ t u. each_bind (word_of t) _ (λ c e. each_bind (read_term n [] u) _ (λ s f. each_some tt)))))
      (cond_of (Fine th) (same_word m (codes "thm")) _ _ (theorem_fine ts) fine_fails))))

  command_fine : (t : Sexp) → Fine th (command n th t)
  command_fine (atom v) = fine_fails
  command_fine (list nil) = fine_fails
  command_fine (list (cons t ts)) =
      option_of (Fine th) (word_of t) (fails 0) (λ m. command_by n th m ts) fine_fails (λ m e. by_fine m ts)

-- VERDICTS: what is accepted is a well-formed theory
data Good : Verdict → Type 0 where
  good_broken : Good broken
  good_refused : {i j : ℕ} → Good (refused i j)
  good_accepted : {n : ℕ} {th : Theory} → Wf th → Good (accepted n th)

good_after : {th : Theory} {o : Outcome} (i : ℕ) (f : Decl → Verdict) → Wf th → Fine th o
    → ((d : Decl) → Wf (d ∷ th) → Good (f d)) → Good (after o i f)
good_after i f w fine_fails h = good_refused
good_after i f w (fine_declares {d = d} a j) h = h d (wf_cons a j w)

run_good : (n i : ℕ) {th : Theory} (ts : Sexps) → Wf th → Good (run n i th ts)
run_good n i nil w = good_accepted w
run_good n i {th} (cons t ts) w =
    good_after i (λ d. run n (i + 1) (d ∷ th) ts) w (command_fine n th w t) (λ d v. run_good n (i + 1) ts v)

judge_good : (t : List ℕ) → Good (judge t)
judge_good t = option_of Good (sexps t) broken _ good_broken (λ ts e. run_good (length t) 0 ts wf_nil)

good_wf : {n : ℕ} {th : Theory} → Good (accepted n th) → Wf th
good_wf (good_accepted w) = w

pub accepted_wf : AcceptedGood
accepted_wf t n th e = good_wf (rw e at (judge_good t))
