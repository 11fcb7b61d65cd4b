-- What a number stands for once it was made.
use Rattle.std.specs.Prelude.{◌≡◌, ℕ, ◌<◌, List, ◌∷◌, Some, None, Option}
use Rattle.std.proofs.Math.Option.{some}
use Rattle.hol.specs.Base.{Word}
use Rattle.hol.specs.Syntax.{Ty, tyvar, tyapp, Tys, tcons, Tm, fvar, bvar, const, app, lam}
use Rattle.store.specs.State.{Contents, State, Grows}

-- a number was given: at most n nodes were spent, and P says what the number stands for
pub record Made (n : ℕ) (s t : State) (P : Contents → ℕ → Type 0) (k : ℕ) : Type 0 where
  pub grows : Grows n s t
  pub stands : P t.contents k

-- none was given: fewer than n nodes were sure, and nothing changed
pub record Full (n : ℕ) (s t : State) : Type 0 where
  pub short : s.left < n
  pub same : t ≡ s

-- a call that builds, by its answer
abbrev pub Builds : ℕ → State → State → (Contents → ℕ → Type 0) → Option ℕ → Type 0
Builds n s t P None = Full n s t
Builds n s t P (Some k) = Made n s t P k

-- What is built. Each speaks of parts that stand for something; of others nothing is said.
abbrev pub IsWord : Word → Contents → ℕ → Type 0
IsWord w c n = c.word n ≡ some w

abbrev pub IsLetter : Word → Contents → ℕ → Type 0
IsLetter w c n = c.typ n ≡ some (tyvar w)

abbrev pub IsTyvar : ℕ → Contents → ℕ → Type 0
IsTyvar x c n = (w : Word) → c.word x ≡ some w → c.typ n ≡ some (tyvar w)

abbrev pub IsTyapp : ℕ → ℕ → Contents → ℕ → Type 0
IsTyapp x as₁ c n = (w : Word) (bs : Tys) → c.word x ≡ some w → c.types as₁ ≡ some bs → c.typ n ≡ some (tyapp w bs)

abbrev pub IsTypes : ℕ → ℕ → Contents → ℕ → Type 0
IsTypes a as₁ c n = (b : Ty) (bs : Tys) → c.typ a ≡ some b → c.types as₁ ≡ some bs → c.types n ≡ some (tcons b bs)

abbrev pub IsFree : ℕ → ℕ → Contents → ℕ → Type 0
IsFree x a c n = (w : Word) (b : Ty) → c.word x ≡ some w → c.typ a ≡ some b → c.term n ≡ some (fvar w b)

abbrev pub IsBound : ℕ → Contents → ℕ → Type 0
IsBound k c n = c.term n ≡ some (bvar k)

abbrev pub IsConst : ℕ → ℕ → Contents → ℕ → Type 0
IsConst x as₁ c n = (w : Word) (bs : Tys) → c.word x ≡ some w → c.types as₁ ≡ some bs → c.term n ≡ some (const w bs)

abbrev pub IsApp : ℕ → ℕ → Contents → ℕ → Type 0
IsApp f x c n = (s t : Tm) → c.term f ≡ some s → c.term x ≡ some t → c.term n ≡ some (app s t)

abbrev pub IsLam : ℕ → ℕ → Contents → ℕ → Type 0
IsLam a t c n = (b : Ty) (s : Tm) → c.typ a ≡ some b → c.term t ≡ some s → c.term n ≡ some (lam b s)

abbrev pub IsTerms : ℕ → ℕ → Contents → ℕ → Type 0
IsTerms t ts c n = (s : Tm) (ss : List Tm) → c.term t ≡ some s → c.terms ts ≡ some ss → c.terms n ≡ some (s ∷ ss)
