-- Pairs of numbers on a stack: what they weigh, and how a number weighs more than any two that are smaller.
use Rattle.std.proofs.Common.{◌≡◌, ℕ, zero, suc, ◌+◌, ◌*◌, ◌^◌, ◌<◌, ◌≤◌, List, [], ◌∷◌, length, le_of_suc-le-suc, pow-suc, arith}
use native.Mathlib.Nat.{one-le-pow, pow-le-pow_right}
use mathlib.Core.Option.{Option}
use Rattle.nodes.specs.Items.{Item}
use Rattle.nodes.specs.Comparing.{Same}

-- what the first numbers of the pairs weigh; of a pair the second number is the newer
abbrev pub weight : List ℕ → ℕ
weight [] = 0
weight (b ∷ []) = 0
weight (b ∷ a ∷ h) = weight h + 3 ^ a

-- there is room for all pairs that each of them can leave
abbrev pub Roomy : ℕ → List ℕ → Type 0
Roomy used [] = Unit {0}
Roomy used (b ∷ []) = Unit {0}
Roomy used (b ∷ a ∷ h) = (length h + 2 * a < 2 * used) × Roomy used h

-- the two numbers of each pair have the same value
abbrev pub Equal : (ℕ → Option Item) → List ℕ → Type 0
Equal f [] = Unit {0}
Equal f (b ∷ []) = Unit {0}
Equal f (b ∷ a ∷ h) = (f a ≡ f b) × Equal f h

-- the two numbers of each pair stand for the same
abbrev pub Sames : (ℕ → Option Item) → List ℕ → Type 0
Sames f [] = Unit {0}
Sames f (b ∷ []) = Unit {0}
Sames f (b ∷ a ∷ h) = Same f a b × Sames f h

-- fewer than two words are no pair
pub none_equal : (f : ℕ → Option Item) (h : List ℕ) → length h < 2 → Equal f h
none_equal f [] l = tt
none_equal f (b ∷ []) l = tt
none_equal f (b ∷ a ∷ h) l = absurd (omega arith)

pub two-smaller : (x y a : ℕ) → x < a → y < a → 3 ^ x + 3 ^ y < 3 ^ a
two-smaller x y zero p q = absurd (omega arith)
two-smaller x y (suc a) p q =
    let three : 0 < 3 = omega arith in
    let x_le : 3 ^ x ≤ 3 ^ a = pow-le-pow_right three (le_of_suc-le-suc p) in
    let y_le : 3 ^ y ≤ 3 ^ a = pow-le-pow_right three (le_of_suc-le-suc q) in
    let pos : 1 ≤ 3 ^ a = one-le-pow a 3 three in
    omega (arith, pow-suc 3 a)

pub one-smaller : (y a : ℕ) → y < a → 3 ^ y < 3 ^ a
one-smaller y a q = omega (arith, two-smaller y y a q q)
