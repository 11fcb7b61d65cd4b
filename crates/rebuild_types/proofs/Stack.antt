-- The stack's words and the path that they hold; bounds on paths.
use Rattle.std.proofs.Common.{◌≡◌, ℕ, ◌+◌, ◌*◌, ◌≤◌, List, ◌∷◌, length, ap, arith}
use mathlib.Core.Option.{some}
use Rattle.hol.specs.Base.{Word}
use Rattle.hol.specs.Syntax.{Ty, tyapp, Tys, tcons, TySubst, subst_tys}
use Rattle.store.specs.State.{Contents, Keeps}
use Rattle.rebuild_types.specs.Codes.{code}
use Rattle.rebuild_types.specs.Machine.{Sort, one, many, Of, nodes, nodes_item, Path, root, args_of, head_of, tail_of, plug, finished, waiting, Holds, holds_root, holds_args, holds_head, holds_tail}
use Rattle.rebuild_types.specs.declared.turn.Wait.{Wait}
use Rattle.rebuild_types.specs.declared.turn.Wait.TheVariants.{Arguments, Head, Tail}

-- what the words hold stays
pub holds_kept : {c d : Contents} {s : Sort} {ws : List ℕ} {p : Path s} → Keeps c d → Holds c s ws p → Holds d s ws p
holds_kept k holds_root = holds_root
holds_kept k (holds_args {n = n} {w = w} e f h) = holds_args e (k.word n w f) (holds_kept k h)
holds_kept k (holds_head {n = n} {bs = bs} e f h) = holds_head e (k.types n bs f) (holds_kept k h)
holds_kept k (holds_tail {n = n} {a = a} e f h) = holds_tail e (k.typ n a f) (holds_kept k h)

-- two words for each step of a path
pub held-length : {c : Contents} {s : Sort} {ws : List ℕ} {p : Path s} → Holds c s ws p → length ws ≤ 2 * waiting p
held-length holds_root = omega arith
held-length (holds_args e f h) = let i = held-length h in let l = ap length e in omega arith
held-length (holds_head e f h) = let i = held-length h in let l = ap length e in omega arith
held-length (holds_tail e f h) = let i = held-length h in let l = ap length e in omega arith

-- what is done is part of the outcome
pub done-fits : (es : TySubst) {s : Sort} (p : Path s) (x : Of s) → nodes s x + finished p ≤ nodes_item (plug es p x)
done-fits es {s = one} root x = omega arith
done-fits es {s = many} root x = omega arith
done-fits es (args_of w p) bs = let i = done-fits es p (tyapp w bs) in omega arith
done-fits es (head_of bs p) a = let i = done-fits es p (tcons a (subst_tys es bs)) in omega arith
done-fits es (tail_of a p) bs = let i = done-fits es p (tcons a bs) in omega arith

-- the newest step of a path, by what waits; the words below are vs
pub data Top (c : Contents) (n : ℕ) (vs : List ℕ) : (s : Sort) → Wait → Path s → Type 0 where
  top-args : {w : Word} {p : Path one} → c.word n ≡ some w → Holds c one vs p → Top c n vs many Arguments (args_of w p)
  top_head : {bs : Tys} {p : Path many} → c.types n ≡ some bs → Holds c many vs p → Top c n vs one Head (head_of bs p)
  top_tail : {a : Ty} {p : Path many} → c.typ n ≡ some a → Holds c many vs p → Top c n vs many Tail (tail_of a p)

pub top : {c : Contents} {s : Sort} {ws : List ℕ} {p : Path s} {k n : ℕ} {vs : List ℕ} {r : Wait} → Holds c s ws p → ws ≡ k ∷ n ∷ vs
    → ((w : Wait) → k ≡ code w → r ≡ w) → Top c n vs s r p
top {k = k} {n = n} {vs = vs} holds_root e q = let z : ◌≡◌ {A = ℕ} 0 1 = cc in absurd (omega arith)
top {ws = ws} {k = k} {n = n} {vs = vs} (holds_args {vs = us} {n = m} f g h) e q =
    let i : k ≡ code Arguments = cc in
    let j : m ≡ n = cc in
    let l : us ≡ vs = cc in
    rw (q Arguments i) (top-args (rw j at g) (rw l at h))
top {ws = ws} {k = k} {n = n} {vs = vs} (holds_head {vs = us} {n = m} f g h) e q =
    let i : k ≡ code Head = cc in
    let j : m ≡ n = cc in
    let l : us ≡ vs = cc in
    rw (q Head i) (top_head (rw j at g) (rw l at h))
top {ws = ws} {k = k} {n = n} {vs = vs} (holds_tail {vs = us} {n = m} f g h) e q =
    let i : k ≡ code Tail = cc in
    let j : m ≡ n = cc in
    let l : us ≡ vs = cc in
    rw (q Tail i) (top_tail (rw j at g) (rw l at h))
