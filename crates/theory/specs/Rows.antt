-- Which declarations the words of a table stand for.
use Rattle.std.specs.Prelude.{◌≡◌, ℕ, cond, List, [], ◌∷◌, ◌==◌, slice_index}
use Rattle.std.proofs.Math.Option.{some}
use Rattle.hol.specs.Theory.{Decl, d_type, d_const, d_def, d_axiom, d_thm, Theory}
use Rattle.store.specs.State.{Contents}
use Rattle.theory.specs.declared.declaration.Declaration.{Declaration}
use Rattle.theory.specs.declared.declaration.Declaration.TheVariants.{«Type» as Typename, Constant, Definition, Axiom, Theorem}

-- the four words of a declaration, the code first
abbrev pub words_of : Declaration → List ℕ
words_of (Typename n) = 0 ∷ n ∷ 0 ∷ 0 ∷ []
words_of (Constant n a) = 1 ∷ n ∷ a ∷ 0 ∷ []
words_of (Definition n a t) = 2 ∷ n ∷ a ∷ t ∷ []
words_of (Axiom n t) = 3 ∷ n ∷ 0 ∷ t ∷ []
words_of (Theorem n h t) = 4 ∷ n ∷ h ∷ t ∷ []

-- the declaration of four words: a code, a name, and two parts
abbrev pub declaration_of : ℕ → ℕ → ℕ → ℕ → Declaration
declaration_of k n f s =
    cond (k == 0) (Typename n) (cond (k == 1) (Constant n f) (cond (k == 2) (Definition n f s) (cond (k == 3) (Axiom n s) (Theorem n f s))))

-- d is the declaration of the words ws
abbrev pub Reads : List ℕ → Declaration → Type 0
Reads ws d = d ≡ declaration_of (slice_index ws 0) (slice_index ws 1) (slice_index ws 2) (slice_index ws 3)

-- a declaration by numbers stands for one of the definitions
abbrev pub Says : Contents → Declaration → Decl → Type 0
Says c (Typename n) (d_type w) = c.word n ≡ some w
Says c (Constant n a) (d_const w ty) = (c.word n ≡ some w) × (c.typ a ≡ some ty)
Says c (Definition n a t) (d_def w ty body) = (c.word n ≡ some w) × (c.typ a ≡ some ty) × (c.term t ≡ some body)
Says c (Axiom n t) (d_axiom w concl) = (c.word n ≡ some w) × (c.term t ≡ some concl)
Says c (Theorem n h t) (d_thm w s) = (c.word n ≡ some w) × (c.terms h ≡ some s.hyps) × (c.term t ≡ some s.concl)
Says c _ _ = ⊥

-- the words, the newest first, stand for a theory
abbrev pub Table : Contents → List ℕ → Theory → Type 0
Table c [] [] = Unit {0}
Table c (s ∷ f ∷ n ∷ k ∷ ws) (d ∷ th) = Says c (declaration_of k n f s) d × Table c ws th
Table c _ _ = ⊥
