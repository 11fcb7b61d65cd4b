-- The words of the machine's stack and of its scope, and the path that they hold.
use Rattle.std.proofs.Common.{◌≡◌, ℕ, zero, suc, ◌*◌, ◌≤◌, List, ◌∷◌, length, sym, refl, ap, ◌∙◌, arith}
use mathlib.Core.Option.{Option, some, none}
use Rattle.hol.specs.Base.{bind, nth}
use Rattle.hol.specs.Syntax.{Ty, Tm, arrow, Arrow}
use Rattle.hol.specs.Theory.{Theory}
use Rattle.hol.proofs.Tools.{some_same, none_some}
use Rattle.store.specs.State.{Contents, Keeps}
use Rattle.typing.specs.Machine.{Path, root, func_of, arg_of, body_of, scope, plug, around, Holds, holds_root, holds_func, holds_arg, holds_body}
use Rattle.waits.specs.Codes.{code, Decodes}
use Rattle.waits.specs.declared.Wait.{Wait}
use Rattle.waits.specs.declared.Wait.TheVariants.{Function, Argument, Body}

-- what the words hold stays
pub holds_kept : {c d : Contents} {ws ss : List ℕ} {p : Path} → Keeps c d → Holds c ws ss p → Holds d ws ss p
holds_kept k (holds_root e q) = holds_root e q
holds_kept k (holds_func {n = n} {x = x} e f h) = holds_func e (k.term n x f) (holds_kept k h)
holds_kept k (holds_arg {n = n} {a = a} e f h) = holds_arg e (k.typ n a f) (holds_kept k h)
holds_kept k (holds_body {n = n} {a = a} e q f h) = holds_body e q (k.typ n a f) (holds_kept k h)

-- two words of the stack for each step of a path, and at most one of the scope
pub stack_length : {c : Contents} {ws ss : List ℕ} {p : Path} → Holds c ws ss p → length ws ≤ 2 * around p
stack_length (holds_root e q) = let l = ap length e in omega arith
stack_length (holds_func e f h) = let i = stack_length h in let l = ap length e in omega arith
stack_length (holds_arg e f h) = let i = stack_length h in let l = ap length e in omega arith
stack_length (holds_body e q f h) = let i = stack_length h in let l = ap length e in omega arith

pub scope-length : {c : Contents} {ws ss : List ℕ} {p : Path} → Holds c ws ss p → length ss ≤ around p
scope-length (holds_root w q) = let l = ap length q in omega arith
scope-length (holds_func e f h) = let i = scope-length h in omega arith
scope-length (holds_arg e f h) = let i = scope-length h in omega arith
scope-length (holds_body e q f h) = let i = scope-length h in let l = ap length q in omega arith

-- the n-th word of the scope stands for the type of the n-th λ outwards
pub bound_type : {c : Contents} {ws ss : List ℕ} {p : Path} → Holds c ws ss p → (n : ℕ) {m : ℕ} → nth ss n ≡ some m
    → (a : Ty) × (nth (scope p) n ≡ some a) × (c.typ m ≡ some a)
bound_type (holds_root w q) n e = none_some (sym (ap (λ ss. nth ss n) q) ∙ e)
bound_type (holds_func w f h) n e = bound_type h n e
bound_type (holds_arg w f h) n e = bound_type h n e
bound_type {c} (holds_body {a = a} w q f h) zero e = (a, refl, ap c.typ (sym (some_same (sym (ap (λ ss. nth ss 0) q) ∙ e))) ∙ f)
bound_type (holds_body w q f h) (suc n) e = bound_type h n (sym (ap (λ ss. nth ss (suc n)) q) ∙ e)

pub not_bound : {c : Contents} {ws ss : List ℕ} {p : Path} → Holds c ws ss p → (n : ℕ) → nth ss n ≡ none → nth (scope p) n ≡ none
not_bound (holds_root w q) n e = refl
not_bound (holds_func w f h) n e = not_bound h n e
not_bound (holds_arg w f h) n e = not_bound h n e
not_bound (holds_body w q f h) zero e = none_some (sym e ∙ ap (λ ss. nth ss 0) q)
not_bound (holds_body w q f h) (suc n) e = not_bound h n (sym (ap (λ ss. nth ss (suc n)) q) ∙ e)

-- a part that has no type leaves none to the whole
arg_none : (o : Option Arrow) {f : Arrow → Option Ty} → ((r : Arrow) → f r ≡ none) → bind o f ≡ none
arg_none none h = refl
arg_none (some r) h = h r

pub plug_none : (th : Theory) (p : Path) → plug th p none ≡ none
plug_none th root = refl
plug_none th (func_of x p) = plug_none th p
plug_none th (arg_of a p) = ap (plug th p) (arg_none (arrow a) (λ r. refl)) ∙ plug_none th p
plug_none th (body_of a p) = plug_none th p

-- the newest step of a path, by what waits; the words below are vs
pub data Top (c : Contents) (n : ℕ) (vs ss : List ℕ) : Wait → Path → Type 0 where
  top-func : {x : Tm} {p : Path} → c.term n ≡ some x → Holds c vs ss p → Top c n vs ss Function (func_of x p)
  top-arg : {a : Ty} {p : Path} → c.typ n ≡ some a → Holds c vs ss p → Top c n vs ss Argument (arg_of a p)
  top-body : {a : Ty} {p : Path} {rs : List ℕ} → ss ≡ n ∷ rs → c.typ n ≡ some a → Holds c vs rs p → Top c n vs ss Body (body_of a p)

pub top : {c : Contents} {ws ss : List ℕ} {p : Path} {k n : ℕ} {vs : List ℕ} {r : Wait} → Holds c ws ss p → ws ≡ k ∷ n ∷ vs
    → Decodes k r → Top c n vs ss r p
top {k = k} {n = n} {vs = vs} (holds_root y z) e q = let l = ap length (sym y ∙ e) in absurd (omega arith)
top {ws = ws} {k = k} {n = n} {vs = vs} (holds_func {vs = us} {n = m} f g h) e q =
    let i : k ≡ code Function = cc in
    let j : m ≡ n = cc in
    let l : us ≡ vs = cc in
    rw (q Function i) (top-func (rw j at g) (rw l at h))
top {ws = ws} {k = k} {n = n} {vs = vs} (holds_arg {vs = us} {n = m} f g h) e q =
    let i : k ≡ code Argument = cc in
    let j : m ≡ n = cc in
    let l : us ≡ vs = cc in
    rw (q Argument i) (top-arg (rw j at g) (rw l at h))
top {ws = ws} {k = k} {n = n} {vs = vs} (holds_body {vs = us} {n = m} f z g h) e q =
    let i : k ≡ code Body = cc in
    let j : m ≡ n = cc in
    let l : us ≡ vs = cc in
    rw (q Body i) (top-body (rw j at z) (rw j at g) (rw l at h))
