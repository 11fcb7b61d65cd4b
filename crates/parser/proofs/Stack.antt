-- The stacks' words and what they hold.
use Rattle.std.proofs.Common.{◌≡◌, ℕ, ◌*◌, ◌≤◌, List, ◌∷◌, length, ap, arith}
use mathlib.Core.Option.{some}
use Rattle.hol.specs.Base.{Word}
use Rattle.hol.specs.Syntax.{Ty, Tm}
use Rattle.hol.specs.Text.{Sexps}
use Rattle.reader.specs.Flat.{depths}
use Rattle.store.specs.State.{Contents, Keeps}
use Rattle.parser.specs.Scope.{Names, no_names, one_name}
use Rattle.parser.specs.Machine.{Path, func, arg, body, scope, owed, Holds, holds_root, holds_func, holds_arg, holds_body}
use Rattle.waits.specs.Codes.{code, Decodes}
use Rattle.waits.specs.declared.Wait.{Wait}
use Rattle.waits.specs.declared.Wait.TheVariants.{Function, Argument, Body}

-- what the words hold stays
pub holds_kept : {c d : Contents} {ws zs : List ℕ} {p : Path} → Keeps c d → Holds c ws zs p → Holds d ws zs p
holds_kept k holds_root = holds_root
holds_kept k (holds_func e l h) = holds_func e l (holds_kept k h)
holds_kept k (holds_arg {m = m} {f = f} e i h) = holds_arg e (k.term m f i) (holds_kept k h)
holds_kept k (holds_body {m = m} {k = n} {x = x} {a = a} e z i j h) = holds_body e z (k.typ m a i) (k.word n x j) (holds_kept k h)

-- two words for each step of a path
pub held-length : {c : Contents} {ws zs : List ℕ} {p : Path} → Holds c ws zs p → length ws ≤ 2 * owed p
held-length holds_root = omega arith
held-length (holds_func e l h) = let i = held-length h in let n = ap length e in omega arith
held-length (holds_arg e j h) = let i = held-length h in let n = ap length e in omega arith
held-length (holds_body e z j k h) = let i = held-length h in let n = ap length e in omega arith

-- at most one name for each
pub names_length : {c : Contents} {ws zs : List ℕ} {p : Path} → Holds c ws zs p → length zs ≤ owed p
names_length holds_root = omega arith
names_length (holds_func e l h) = let i = names_length h in omega arith
names_length (holds_arg e j h) = let i = names_length h in omega arith
names_length (holds_body e z j k h) = let i = names_length h in let n = ap length z in omega arith

-- the names are those of the λs around
pub names_of : {c : Contents} {ws zs : List ℕ} {p : Path} → Holds c ws zs p → Names c zs (scope p)
names_of holds_root = no_names
names_of (holds_func e l h) = names_of h
names_of (holds_arg e j h) = names_of h
names_of (holds_body e z j k h) = rw z (one_name k (names_of h))

-- the newest step of a path, by what waits; the words below are vs, the names zs
pub data Top (c : Contents) (m : ℕ) (vs zs : List ℕ) : Wait → Path → Type 0 where
  top-func : {n : ℕ} {us : Sexps} {p : Path} → depths us ≤ n → Holds c vs zs p → Top c m vs zs Function (func n us p)
  top-arg : {f : Tm} {us : Sexps} {p : Path} → c.term m ≡ some f → Holds c vs zs p → Top c m vs zs Argument (arg f us p)
  top-body : {k : ℕ} {zs₁ : List ℕ} {x : Word} {a : Ty} {us : Sexps} {p : Path} → zs ≡ k ∷ zs₁ → c.typ m ≡ some a → Holds c vs zs₁ p
      → Top c m vs zs Body (body x a us p)

pub top : {c : Contents} {ws zs : List ℕ} {p : Path} {k m : ℕ} {vs : List ℕ} {r : Wait} → Holds c ws zs p
    → ws ≡ k ∷ m ∷ vs → Decodes k r → Top c m vs zs r p
top {k = k} {m = m} {vs = vs} holds_root e q = let z : ◌≡◌ {A = ℕ} 0 1 = cc in absurd (omega arith)
top {ws = ws} {k = k} {m = m} {vs = vs} (holds_func {ws₁ = us} {m = n} f l h) e q =
    let i : k ≡ code Function = cc in
    let y : us ≡ vs = cc in
    rw (q Function i) (top-func l (rw y at h))
top {ws = ws} {k = k} {m = m} {vs = vs} (holds_arg {ws₁ = us} {m = n} f g h) e q =
    let i : k ≡ code Argument = cc in
    let j : n ≡ m = cc in
    let y : us ≡ vs = cc in
    rw (q Argument i) (top-arg (rw j at g) (rw y at h))
top {ws = ws} {k = k} {m = m} {vs = vs} (holds_body {ws₁ = us} {m = n} f z g x h) e q =
    let i : k ≡ code Body = cc in
    let j : n ≡ m = cc in
    let y : us ≡ vs = cc in
    rw (q Body i) (top-body z (rw j at g) (rw y at h))
