-- What stands at a place of a list.
use Rattle.std.proofs.Common.{◌≡◌, ℕ, zero, suc, List, [], ◌∷◌, Some, None, Option, Bor, refl}
use Rattle.std.specs.List.{slice_get}
use Rattle.std.specs.Option.{option_map, option_copied}
use Rattle.hol.specs.Base.{nth}
use Rattle.signature.specs.Finds.{Finds}

nth_found : (xs : List ℕ) (n : ℕ) → Finds (λ w k. k ≡ w) (nth xs n) (slice_get xs n)
nth_found [] n = refl
nth_found (x ∷ xs) zero = record { what = x; is = refl; stands = refl }
nth_found (x ∷ xs) (suc n) = nth_found xs n

pub copied_found : (xs : List ℕ) (n : ℕ) (r : Option (Bor ℕ)) → option_map (λ x. x.now) r ≡ slice_get xs n
    → Finds (λ w k. k ≡ w) (nth xs n) (option_copied r)
copied_found xs n None e = rw (← e) at (nth_found xs n)
copied_found xs n (Some x) e = rw (← e) at (nth_found xs n)
