-- What terms denote where the variables of λs become terms, free variables become those of λs, or there are more λs around.
use Rattle.std.proofs.Common.{◌≡◌, ℕ, zero, suc, cond, eqb, List, [], ◌∷◌, sym, refl, ap, ◌∙◌, inl, inr, add-one, eqb-true}
use mathlib.Core.Option.{some}
use borrow.Author.Tests.{eqb-false}
use Rattle.hol.specs.Base.{Word, nth}
use Rattle.hol.specs.Syntax.{Ty, Tm, same_var, open_at, close_at}
use Rattle.hol.specs.Theory.{Theory}
use Rattle.hol.specs.Models.{Model, Consts, Cards, Values}
use Rattle.hol.proofs.Tools.{decided, some_same, none_some}
use Rattle.hol.proofs.Equality.{var_eq}
use Rattle.hol.proofs.Denotes.{Denotes, den_fvar, den_bvar, den_const, den_app, den_lam}

-- MORE λs AROUND: g' is g with more types further out, and vs' is vs with more values
pub data MoreAround : List Ty → List ℕ → List Ty → List ℕ → Type 0 where
  more-any : {g : List Ty} {vs : List ℕ} → MoreAround [] [] g vs
  more_under : {g g' : List Ty} {vs vs' : List ℕ} {a : Ty} {v : ℕ} → MoreAround g vs g' vs'
      → MoreAround (a ∷ g) (v ∷ vs) (a ∷ g') (v ∷ vs')

more_at : {g g' : List Ty} {vs vs' : List ℕ} (n : ℕ) {a : Ty} {v : ℕ} → MoreAround g vs g' vs'
    → nth g n ≡ some a → nth vs n ≡ some v → (nth g' n ≡ some a) × (nth vs' n ≡ some v)
more_at n more-any e q = none_some e
more_at zero (more_under l) e q = (e, q)
more_at (suc n) (more_under l) e q = more_at n l e q

-- ONE λ AROUND ALL: g' is g with c furthest out, and vs' is vs with v; its place is n
pub data OneAround (c : Ty) (v : ℕ) : ℕ → List Ty → List ℕ → List Ty → List ℕ → Type 0 where
  one_only : OneAround c v zero [] [] (c ∷ []) (v ∷ [])
  one_under : {n : ℕ} {g g' : List Ty} {vs vs' : List ℕ} {a : Ty} {u : ℕ} → OneAround c v n g vs g' vs'
      → OneAround c v (suc n) (a ∷ g) (u ∷ vs) (a ∷ g') (u ∷ vs')

one_more : {c : Ty} {v n : ℕ} {g g' : List Ty} {vs vs' : List ℕ} → OneAround c v n g vs g' vs' → MoreAround g vs g' vs'
one_more one_only = more-any
one_more (one_under o) = more_under (one_more o)

one_at : {c : Ty} {v n : ℕ} {g g' : List Ty} {vs vs' : List ℕ} → OneAround c v n g vs g' vs'
    → (nth g' n ≡ some c) × (nth vs' n ≡ some v)
one_at one_only = (refl, refl)
one_at (one_under o) = one_at o

-- at any other place is what was there
one_else : {c : Ty} {v n : ℕ} {g g' : List Ty} {vs vs' : List ℕ} (j : ℕ) {a : Ty} {u : ℕ} → OneAround c v n g vs g' vs'
    → (j ≡ n → ⊥) → nth g' j ≡ some a → nth vs' j ≡ some u → (nth g j ≡ some a) × (nth vs j ≡ some u)
one_else zero one_only d e q = absurd (d refl)
one_else (suc j) one_only d e q = none_some e
one_else zero (one_under o) d e q = (e, q)
one_else (suc j) (one_under o) d e q = one_else j o (λ s. d (ap suc s)) e q

-- the free variable x of type c is worth v, all others what they were
abbrev pub update : Values → Word → Ty → ℕ → Values
update w x c v y b = cond (same_var x c y b) v (w y b)

module _ {th : Theory} {m : Model} {k : Consts} {z : Cards} {w : Values} where
  pub denotes_more : {g g' : List Ty} {vs vs' : List ℕ} {t : Tm} {a : Ty} {p : ℕ} → MoreAround g vs g' vs'
      → Denotes th m k z w g vs t a p → Denotes th m k z w g' vs' t a p
  denotes_more l (den_fvar o) = den_fvar o
  denotes_more l (den_bvar {n = n} e q) = let (r, s) = more_at n l e q in den_bvar r s
  denotes_more l (den_const e) = den_const e
  denotes_more l (den_app f x) = den_app (denotes_more l f) (denotes_more l x)
  denotes_more l (den_lam o t) = den_lam o (λ n. denotes_more (more_under l) (t n))

  -- a term for the variable of the outermost λ, which is worth what the term is worth
  pub denotes_open : {s : Tm} {c : Ty} {v n : ℕ} {g g' : List Ty} {vs vs' : List ℕ} {t : Tm} {a : Ty} {p : ℕ}
      → Denotes th m k z w [] [] s c v → OneAround c v n g vs g' vs' → Denotes th m k z w g' vs' t a p
      → Denotes th m k z w g vs (open_at n s t) a p
  denotes_open d o (den_fvar h) = den_fvar h
  denotes_open {c = c} {v} {n} {g} {g'} {vs} {vs'} d o (den_bvar {n = j} {v = u} {a = a} e q) = elim (decided (eqb j n)) [
    | inl t ↦
        let there = sym (eqb-true j n t) in
        let same_ty : c ≡ a = some_same (sym (one_at o).0 ∙ ap (nth g') there ∙ e) in
        let same_value : v ≡ u = some_same (sym (one_at o).1 ∙ ap (nth vs') there ∙ q) in
        rw t (rw (same_ty, same_value) at (denotes_more {g' = g} {vs' = vs} more-any d))
    | inr t ↦ let (r, s) = one_else j o (eqb-false j n t) e q in rw t (den_bvar r s)
  ]
  denotes_open d o (den_const e) = den_const e
  denotes_open d o (den_app f x) = den_app (denotes_open d o f) (denotes_open d o x)
  denotes_open {n = n} d o (den_lam h t) = rw (add-one n) (den_lam h (λ u. denotes_open {n = suc n} d (one_under o) (t u)))

  -- a free variable becomes the variable of the outermost λ
  pub denotes_close : (x : Word) {c : Ty} {v n : ℕ} {g g' : List Ty} {vs vs' : List ℕ} {t : Tm} {a : Ty} {p : ℕ}
      → OneAround c v n g vs g' vs' → Denotes th m k z (update w x c v) g vs t a p
      → Denotes th m k z w g' vs' (close_at n x c t) a p
  denotes_close x {c = c} o (den_fvar {x = y} {a = b} h) = elim (decided (same_var x c y b)) [
    | inl t ↦ rw t (den_bvar (rw (var_eq x c y b t).1 at (one_at o).0) (one_at o).1)
    | inr t ↦ rw t (den_fvar h)
  ]
  denotes_close x o (den_bvar {n = j} e q) = let (r, s) = more_at j (one_more o) e q in den_bvar r s
  denotes_close x o (den_const e) = den_const e
  denotes_close x o (den_app f y) = den_app (denotes_close x o f) (denotes_close x o y)
  denotes_close x {n = n} o (den_lam h t) = rw (add-one n) (den_lam h (λ u. denotes_close x {n = suc n} (one_under o) (t u)))
