-- Fuel for reading terms: any that is at least the tree's depth reads the same.
use Rattle.std.proofs.Common.{◌≡◌, ℕ, zero, suc, ◌≤◌, List, ◌∷◌, refl, arith}
use mathlib.Core.Option.{Option}
use Rattle.hol.specs.Base.{Word}
use Rattle.hol.specs.Syntax.{Tm}
use Rattle.hol.specs.Text.{Sexp, Sexps, atom, list, nil, cons, read_app, read_lam, read_term_by, read_term}
use Rattle.reader.specs.Flat.{depth, depths}

-- two readings of terms that agree on trees at most n deep read a longer term alike
module _
    (f g : List Word → Sexp → Option Tm) (n : ℕ)
    (same : (xs : List Word) (u : Sexp) → depth u ≤ n → f xs u ≡ g xs u)
  where
    same-app : (xs : List Word) (ts : Sexps) → depths ts ≤ n → read_app f xs ts ≡ read_app g xs ts
    same-app xs nil h = refl
    same-app xs (cons t nil) h = refl
    same-app xs (cons t (cons u nil)) h = rw (same xs t (omega arith), same xs u (omega arith))
    same-app xs (cons t (cons u (cons v ts))) h = refl

    same-lam : (xs : List Word) (ts : Sexps) → depths ts ≤ n → read_lam f xs ts ≡ read_lam g xs ts
    same-lam xs nil h = refl
    same-lam xs (cons t nil) h = refl
    same-lam xs (cons t (cons u nil)) h = refl
    same-lam xs (cons (atom x) (cons u (cons v nil))) h = rw (same (x ∷ xs) v (omega arith))
    same-lam xs (cons (list us) (cons u (cons v nil))) h = refl
    same-lam xs (cons t (cons u (cons v (cons w ts)))) h = refl

    same_by : (xs : List Word) (m : Word) (ts : Sexps) → depths ts ≤ n → read_term_by f xs m ts ≡ read_term_by g xs m ts
    same_by xs m ts h = rw (same-app xs ts h, same-lam xs ts h)

pub fuel : (n m : ℕ) (xs : List Word) (u : Sexp) → depth u ≤ n → depth u ≤ m → read_term n xs u ≡ read_term m xs u
fuel n m xs (atom w) h k = refl
fuel zero m xs (list ts) h k = absurd (omega arith)
fuel (suc n) zero xs (list ts) h k = absurd (omega arith)
fuel (suc n) (suc m) xs (list nil) h k = refl
fuel (suc n) (suc m) xs (list (cons (list us) ts)) h k = refl
fuel (suc n) (suc m) xs (list (cons (atom w) ts)) h k =
    same_by (λ ys u. read_term n ys u) (λ ys u. read_term m ys u) (depths ts)
    (λ ys u d. fuel n m ys u (omega arith) (omega arith)) xs w ts (omega arith)
