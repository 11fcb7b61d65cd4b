-- The stack's words and what they hold.
use Rattle.std.proofs.Common.{◌≡◌, ℕ, ◌+◌, ◌*◌, ◌≤◌, List, [], ◌∷◌, length, ap, arith}
use mathlib.Core.Option.{some}
use Rattle.hol.specs.Base.{Word}
use Rattle.hol.specs.Syntax.{Ty}
use Rattle.hol.specs.Text.{Sexps}
use Rattle.store.specs.State.{Contents, Keeps}
use Rattle.parser_types.specs.Machine.{Path, inside, owed, Holds, holds_root, holds_type, holds_name}
use Rattle.parser_types.specs.Marks.{code, Decodes}
use Rattle.parser_types.specs.declared.turn.Mark.{Mark}
use Rattle.parser_types.specs.declared.turn.Mark.TheVariants.{Bracket, Argument}

-- what the words hold stays
pub holds_kept : {c d : Contents} {ws : List ℕ} {p : Path} {as₁ : List Ty} → Keeps c d → Holds c ws p as₁ → Holds d ws p as₁
holds_kept k holds_root = holds_root
holds_kept k (holds_type {n = n} {a = a} e f h) = holds_type e (k.typ n a f) (holds_kept k h)
holds_kept k (holds_name {n = n} {w = w} e f h) = holds_name e (k.word n w f) (holds_kept k h)

-- two words for each type and each name
pub held-length : {c : Contents} {ws : List ℕ} {p : Path} {as₁ : List Ty} → Holds c ws p as₁ → length ws ≤ 2 * (length as₁ + owed p)
held-length holds_root = omega arith
held-length (holds_type e f h) = let i = held-length h in let l = ap length e in omega arith
held-length (holds_name e f h) = let i = held-length h in let l = ap length e in omega arith

-- the newest pair, by its mark; the words below are vs
pub data Top (c : Contents) (n : ℕ) (vs : List ℕ) : Mark → Path → List Ty → Type 0 where
  top_type : {p : Path} {a : Ty} {as₁ : List Ty} → c.typ n ≡ some a → Holds c vs p as₁ → Top c n vs Argument p (a ∷ as₁)
  top_name : {p : Path} {w : Word} {as₁ : List Ty} {us : Sexps} → c.word n ≡ some w → Holds c vs p as₁
      → Top c n vs Bracket (inside w as₁ us p) []

pub top : {c : Contents} {ws : List ℕ} {p : Path} {as₁ : List Ty} {k n : ℕ} {vs : List ℕ} {r : Mark} → Holds c ws p as₁
    → ws ≡ k ∷ n ∷ vs → Decodes k r → Top c n vs r p as₁
top {k = k} {n = n} {vs = vs} holds_root e q = let z : ◌≡◌ {A = ℕ} 0 1 = cc in absurd (omega arith)
top {ws = ws} {k = k} {n = n} {vs = vs} (holds_type {vs = us} {n = m} f g h) e q =
    let i : k ≡ code Argument = cc in
    let j : m ≡ n = cc in
    let l : us ≡ vs = cc in
    rw (q Argument i) (top_type (rw j at g) (rw l at h))
top {ws = ws} {k = k} {n = n} {vs = vs} (holds_name {vs = us} {n = m} f g h) e q =
    let i : k ≡ code Bracket = cc in
    let j : m ≡ n = cc in
    let l : us ≡ vs = cc in
    rw (q Bracket i) (top_name (rw j at g) (rw l at h))
