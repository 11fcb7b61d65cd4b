-- Codes of functions: a code is below the power, its digits are the function's values, and a code is determined by its digits.
use Rattle.std.proofs.Common.{◌≡◌, ℕ, zero, suc, ◌+◌, ◌-◌, ◌*◌, ◌/◌, ◌%◌, ◌^◌, ◌<◌, ◌≤◌, Bool, true, false, eqb, sym, refl, ap, ◌∙◌, inl, inr, mod-lt, mod-eq_of_lt, mul_assoc, pow-suc, arith, pow-add, eqb-true}
use native.Mathlib.Nat.{pow-zero, pow-succ', one-le-pow, mod-one, mul-add-div_right, mul-add-mod_self_right}
use borrow.Author.Tests.{eqb-false}
use Rattle.std.proofs.lemmas.Bool.{cases_eq}
use lib.Arith.{digits_lt, digits_div, mod-mul}
use Rattle.hol.specs.Models.{encode, digit, bit, code_eq, least, code_choice}
use Rattle.hol.proofs.Tools.{decided}

pub encode_lt : (b : ℕ) (f : ℕ → ℕ) (n : ℕ) → ((x : ℕ) → x < n → f x < b) → encode b f n < b ^ n
encode_lt b f zero h = rw (pow-zero b) (omega arith)
encode_lt b f (suc n) h =
    rw (pow-succ' b n) (digits_lt (h n (omega arith)) (encode_lt b f n (λ x l. h x (omega arith))))

-- the code depends only on the values below n
pub encode_ext : (b : ℕ) (f g : ℕ → ℕ) (n : ℕ) → ((x : ℕ) → x < n → f x ≡ g x) → encode b f n ≡ encode b g n
encode_ext b f g zero h = refl
encode_ext b f g (suc n) h = cc (h n (omega arith), encode_ext b f g n (λ x l. h x (omega arith)))

pub digit_lt : (b p x : ℕ) → 0 < b → digit b p x < b
digit_lt b p x h = mod-lt (p / b ^ x) h

-- one more digit on top does not change a lower one
lower_digit : (b q r x d : ℕ) → 0 < b → (q * (b ^ d * b * b ^ x) + r) / b ^ x % b ≡ r / b ^ x % b
lower_digit b q r x d h =
    rw (← mul_assoc q (b ^ d * b) (b ^ x), mul-add-div_right (one-le-pow x b h), ← mul_assoc q (b ^ d) b, mul-add-mod_self_right)

pow_split : (b n x : ℕ) → x < n → b ^ n ≡ b ^ (n - (x + 1)) * b * b ^ x
pow_split b n x l =
    let e : n ≡ suc (n - (x + 1)) + x = omega arith in
    ap (λ (k : ℕ). b ^ k) e ∙ pow-add b (suc (n - (x + 1))) x ∙ ap (λ (k : ℕ). k * b ^ x) (pow-suc b (n - (x + 1)))

top_digit : (b q r n : ℕ) → q < b → r < b ^ n → digit b (q * b ^ n + r) n ≡ q
top_digit b q r n h l = rw (digits_div q l, mod-eq_of_lt h)

pub digit-encode : (b : ℕ) (f : ℕ → ℕ) (n x : ℕ) → ((y : ℕ) → y < n → f y < b) → x < n → digit b (encode b f n) x ≡ f x
digit-encode b f zero x h l = omega arith
digit-encode b f (suc n) x h l = elim (cases_eq x n) [
  | inl e ↦ rw e (top_digit b (f n) (encode b f n) n (h n (omega arith)) (encode_lt b f n (λ y k. h y (omega arith))))
  | inr e ↦
      let k : x < n = omega arith in
      let p : 0 < b = omega (arith, h x l) in
      rw (pow_split b n x k, lower_digit b (f n) (encode b f n) x (n - (x + 1)) p)
      (digit-encode b f n x (λ y j. h y (omega arith)) k)
]

encode-digits : (b p n : ℕ) → 0 < b → encode b (digit b p) n ≡ p % b ^ n
encode-digits b p zero h = rw (pow-zero b, mod-one)
encode-digits b p (suc n) h =
    rw (pow-succ' b n, mod-mul p h (one-le-pow n b h), encode-digits b p n h)

-- the code of a code's digits is the code
pub encode-digit : (b p n : ℕ) → 0 < b → p < b ^ n → encode b (digit b p) n ≡ p
encode-digit b p n h l = encode-digits b p n h ∙ mod-eq_of_lt l

-- codes with the same digits are the same
pub same_code : (b p q n : ℕ) → 0 < b → p < b ^ n → q < b ^ n → ((x : ℕ) → x < n → digit b p x ≡ digit b q x) → p ≡ q
same_code b p q n h k l e =
    sym (encode-digit b p n h k) ∙ encode_ext b (digit b p) (digit b q) n e ∙ encode-digit b q n h l

-- EQUALITY
bit_lt : (b : Bool) → bit b < 2
bit_lt true = omega arith
bit_lt false = omega arith

row_lt : (n x : ℕ) → encode 2 (λ y. bit (eqb x y)) n < 2 ^ n
row_lt n x = encode_lt 2 (λ y. bit (eqb x y)) n (λ y l. bit_lt (eqb x y))

pub code_eq_lt : (n : ℕ) → code_eq n < (2 ^ n) ^ n
code_eq_lt n = encode_lt (2 ^ n) (λ x. encode 2 (λ y. bit (eqb x y)) n) n (λ x l. row_lt n x)

-- equality's code is worth at x and y whether they are equal
pub code_eq_at : (n x y : ℕ) → x < n → y < n → digit 2 (digit (2 ^ n) (code_eq n) x) y ≡ bit (eqb x y)
code_eq_at n x y h l =
    rw (digit-encode (2 ^ n) (λ z. encode 2 (λ u. bit (eqb z u)) n) n x (λ z k. row_lt n z) h)
    (digit-encode 2 (λ u. bit (eqb x u)) n y (λ u k. bit_lt (eqb x u)) l)

-- CHOICE
least-below : (p n k : ℕ) → 0 < n + k → least p n k < n + k
least-below p zero k h = omega arith
least-below p (suc n) k h = elim (decided (eqb (digit 2 p k) 1)) [
  | inl e ↦ rw e (omega arith)
  | inr e ↦ rw e (omega (arith, least-below p n (k + 1) (omega arith)))
]

least_lt : (p n : ℕ) → 0 < n → least p n 0 < n
least_lt p n h = omega (arith, least-below p n 0 (omega arith))

least_from : (p n k x : ℕ) → k ≤ x → x < n + k → digit 2 p x ≡ 1 → digit 2 p (least p n k) ≡ 1
least_from p zero k x h l e = omega arith
least_from p (suc n) k x h l e = elim (decided (eqb (digit 2 p k) 1)) [
  | inl t ↦ rw t (eqb-true (digit 2 p k) 1 t)
  | inr t ↦
      let d : k ≡ x → ⊥ = λ q. eqb-false (digit 2 p k) 1 t (ap (digit 2 p) q ∙ e) in
      rw t (least_from p n (k + 1) x (omega arith) (omega arith) e)
]

-- where the predicate is true somewhere, it is true at the least place
pub least_true : (p n x : ℕ) → x < n → digit 2 p x ≡ 1 → digit 2 p (least p n 0) ≡ 1
least_true p n x l e = least_from p n 0 x (omega arith) (omega arith) e

pub code_choice_lt : (n : ℕ) → 0 < n → code_choice n < n ^ (2 ^ n)
code_choice_lt n h = encode_lt n (λ p. least p n 0) (2 ^ n) (λ p l. least_lt p n h)

pub code_choice_at : (n p : ℕ) → 0 < n → p < 2 ^ n → digit n (code_choice n) p ≡ least p n 0
code_choice_at n p h l = digit-encode n (λ q. least q n 0) (2 ^ n) p (λ q k. least_lt q n h) l
