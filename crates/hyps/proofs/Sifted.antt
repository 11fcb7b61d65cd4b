-- What is put before a list from the last to the first comes to union, remove and dedup.
use Rattle.std.proofs.Common.{◌≡◌, ◌||◌, List, [], ◌∷◌, map, sym, refl, ap, ◌∙◌, inl, inr, map-id}
use Rattle.hol.specs.Syntax.{Tm, same_tm}
use Rattle.hol.specs.Kernel.{in_hyps, union, remove, dedup}
use Rattle.hol.proofs.Tools.{decided, clash}
use Rattle.hol.proofs.Equality.{in_terms, terms_in}
use Rattle.hol.proofs.Assumptions.{in_dedup, of_dedup}
use Rattle.hyps.specs.Sifting.{sifted}

pub sifted-union : (us gs : List Tm) → sifted (λ u vs. in_hyps u gs) (λ u. u) us gs ≡ union us gs
sifted-union [] gs = refl
sifted-union (u ∷ us) gs = rw (sifted-union us gs)

pub sifted-remove : (t : Tm) (us : List Tm) → sifted (λ u vs. same_tm t u) (λ u. u) us [] ≡ remove t us
sifted-remove t [] = refl
sifted-remove t (u ∷ us) = rw (sifted-remove t us)

pub sifted_both : (t : Tm) (us gs : List Tm) → sifted (λ u vs. same_tm t u || in_hyps u gs) (λ u. u) us gs ≡ union (remove t us) gs
sifted_both t [] gs = refl
sifted_both t (u ∷ us) gs = elim (decided (same_tm t u)) [
  | inl e ↦ rw (e, sifted_both t us gs)
  | inr e ↦ rw (e, sifted_both t us gs)
]

-- a list has what it has once each is there once
in_dedup_same : (t : Tm) (us : List Tm) → in_hyps t (dedup us) ≡ in_hyps t us
in_dedup_same t us = elim (decided (in_hyps t us)) [
  | inl e ↦ terms_in (in_dedup us (in_terms t us e)) ∙ sym e
  | inr e ↦ elim (decided (in_hyps t (dedup us))) [
    | inl d ↦ clash (terms_in (of_dedup us (in_terms t (dedup us) d))) e
    | inr d ↦ d ∙ sym e
  ]
]

pub sifted-dedup : (f : Tm → Tm) (us : List Tm) → sifted (λ u vs. in_hyps u vs) f us [] ≡ dedup (map f us)
sifted-dedup f [] = refl
sifted-dedup f (u ∷ us) = rw (sifted-dedup f us, in_dedup_same (f u) (map f us))

-- the same, with each term as it is
pub sifted-once : (us : List Tm) → sifted (λ u vs. in_hyps u vs) (λ u. u) us [] ≡ dedup us
sifted-once us = sifted-dedup (λ u. u) us ∙ ap dedup (map-id us)
