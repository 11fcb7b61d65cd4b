-- Calls that build, one after another; and what is said of the number built, said in another way.
use Rattle.std.proofs.Common.{ℕ, ◌+◌, ◌≤◌, Some, None, Option as Answer, refl, ◌∙◌, arith}
use Rattle.store.specs.Builds.{Builds}
use Rattle.store.specs.State.{Contents, State, Keeps, Grows}

pub grows_none : (s : State) → Grows 0 s s
grows_none s =
    record {
      keeps = record { word = λ _ _ e. e; typ = λ _ _ e. e; types = λ _ _ e. e; term = λ _ _ e. e; terms = λ _ _ e. e };
      cost = omega arith;
      count = omega arith;
      marks = λ _ _. refl;
      lefts = λ _ _. refl;
    }

pub keeps_on : {c d e : Contents} → Keeps c d → Keeps d e → Keeps c e
keeps_on g h =
    record {
      word = λ n x p. h.word n x (g.word n x p);
      typ = λ n x p. h.typ n x (g.typ n x p);
      types = λ n x p. h.types n x (g.types n x p);
      term = λ n x p. h.term n x (g.term n x p);
      terms = λ n x p. h.terms n x (g.terms n x p);
    }

-- from s to u by way of t; k is what both cost, or more
pub grows_on : (m n k : ℕ) (s t u : State) → m + n ≤ k → Grows m s t → Grows n t u → Grows k s u
grows_on m n k s t u le g h =
    record {
      keeps = keeps_on g.keeps h.keeps;
      cost = omega (arith, g.cost, h.cost);
      count = omega (arith, g.count, h.count);
      marks = λ i e. h.marks i (omega (arith, g.count)) ∙ g.marks i e;
      lefts = λ i e. h.lefts i (omega (arith, g.count)) ∙ g.lefts i e;
    }

-- the same number, of which something else is said
pub builds_so : (n : ℕ) (s t : State) (P Q : Contents → ℕ → Type 0) (r : Answer ℕ) → Builds n s t P r
    → ((k : ℕ) → P t.contents k → Q t.contents k) → Builds n s t Q r
builds_so n s t P Q None h so = h
builds_so n s t P Q (Some k) h so = record { grows = h.grows; stands = so k h.stands }

-- a call that builds after one that spent at most m, where there was room for both
pub builds_after : (m n k : ℕ) (s t u : State) (P Q : Contents → ℕ → Type 0) (r : Answer ℕ) → m + n ≤ k → k ≤ s.left → Grows m s t → Builds n t u P r
    → ((j : ℕ) → Grows n t u → P u.contents j → Q u.contents j) → Builds k s u Q r
builds_after m n k s t u P Q None le room g h so = absurd (omega (arith, g.cost, h.short))
builds_after m n k s t u P Q (Some j) le room g h so =
    record { grows = grows_on m n k s t u le g h.grows; stands = so j h.grows h.stands }
