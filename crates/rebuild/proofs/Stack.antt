-- The stack's words and the path that they hold; bounds on paths.
use Rattle.std.proofs.Common.{◌≡◌, ℕ, ◌+◌, ◌*◌, ◌≤◌, List, ◌∷◌, length, ap, arith}
use mathlib.Core.Option.{some}
use Rattle.hol.specs.Syntax.{Ty, Tm, app, lam}
use Rattle.store.specs.Measures.{nodes_tm}
use Rattle.store.specs.State.{Contents, Keeps}
use Rattle.waits.specs.Codes.{code}
use Rattle.rebuild.specs.Rebuilt.{Change, rebuilt}
use Rattle.rebuild.specs.Machine.{Path, root, function_of, argument_of, body_of, deep, plug, finished, waiting, Holds, holds_root, holds_function, holds_argument, holds_body}
use Rattle.waits.specs.declared.Wait.{Wait}
use Rattle.waits.specs.declared.Wait.TheVariants.{Function, Argument, Body}

-- what the words hold stays
pub holds_kept : {c d : Contents} {ws : List ℕ} {p : Path} → Keeps c d → Holds c ws p → Holds d ws p
holds_kept k holds_root = holds_root
holds_kept k (holds_function {n = n} {x = x} e f h) = holds_function e (k.term n x f) (holds_kept k h)
holds_kept k (holds_argument {n = n} {f = g} e f h) = holds_argument e (k.term n g f) (holds_kept k h)
holds_kept k (holds_body {n = n} {a = a} e f h) = holds_body e (k.typ n a f) (holds_kept k h)

-- two words for each step of a path
pub held-length : {c : Contents} {ws : List ℕ} {p : Path} → Holds c ws p → length ws ≤ 2 * waiting p
held-length holds_root = omega arith
held-length (holds_function e f h) = let i = held-length h in let l = ap length e in omega arith
held-length (holds_argument e f h) = let i = held-length h in let l = ap length e in omega arith
held-length (holds_body e f h) = let i = held-length h in let l = ap length e in omega arith

-- two words for each λ around
pub held-deep : {c : Contents} (d : ℕ) {ws : List ℕ} {p : Path} → Holds c ws p → 2 * deep d p ≤ 2 * d + length ws
held-deep d holds_root = omega arith
held-deep d (holds_function e f h) = let i = held-deep d h in let l = ap length e in omega arith
held-deep d (holds_argument e f h) = let i = held-deep d h in let l = ap length e in omega arith
held-deep d (holds_body e f h) = let i = held-deep d h in let l = ap length e in omega arith

-- what is done is part of the outcome
pub done-fits : (F : Change) (d : ℕ) (p : Path) (u : Tm) → nodes_tm u + finished p ≤ nodes_tm (plug F d p u)
done-fits F d root u = omega arith
done-fits F d (function_of x p) u = let i = done-fits F d p (app u (rebuilt F (deep d p) x)) in omega arith
done-fits F d (argument_of f p) u = let i = done-fits F d p (app f u) in omega arith
done-fits F d (body_of a p) u = let i = done-fits F d p (lam a u) in omega arith

-- the newest step of a path, by what waits; the words below are vs
pub data Top (c : Contents) (n : ℕ) (vs : List ℕ) : Wait → Path → Type 0 where
  top_function : {x : Tm} {p : Path} → c.term n ≡ some x → Holds c vs p → Top c n vs Function (function_of x p)
  top_argument : {f : Tm} {p : Path} → c.term n ≡ some f → Holds c vs p → Top c n vs Argument (argument_of f p)
  top-body : {a : Ty} {p : Path} → c.typ n ≡ some a → Holds c vs p → Top c n vs Body (body_of a p)

pub top : {c : Contents} {ws : List ℕ} {p : Path} {k n : ℕ} {vs : List ℕ} {r : Wait} → Holds c ws p → ws ≡ k ∷ n ∷ vs
    → ((w : Wait) → k ≡ code w → r ≡ w) → Top c n vs r p
top {k = k} {n = n} {vs = vs} holds_root e q = let z : ◌≡◌ {A = ℕ} 0 1 = cc in absurd (omega arith)
top {ws = ws} {k = k} {n = n} {vs = vs} (holds_function {vs = us} {n = m} f g h) e q =
    let i : k ≡ code Function = cc in
    let j : m ≡ n = cc in
    let l : us ≡ vs = cc in
    rw (q Function i) (top_function (rw j at g) (rw l at h))
top {ws = ws} {k = k} {n = n} {vs = vs} (holds_argument {vs = us} {n = m} f g h) e q =
    let i : k ≡ code Argument = cc in
    let j : m ≡ n = cc in
    let l : us ≡ vs = cc in
    rw (q Argument i) (top_argument (rw j at g) (rw l at h))
top {ws = ws} {k = k} {n = n} {vs = vs} (holds_body {vs = us} {n = m} f g h) e q =
    let i : k ≡ code Body = cc in
    let j : m ≡ n = cc in
    let l : us ≡ vs = cc in
    rw (q Body i) (top-body (rw j at g) (rw l at h))
