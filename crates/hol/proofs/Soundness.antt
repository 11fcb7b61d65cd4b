-- What can be derived is valid in every finite model that satisfies the axioms; without axioms, falsehood cannot be derived.
use Rattle.std.proofs.Common.{List, refl, arith}
use Rattle.hol.specs.Syntax.{Tm}
use Rattle.hol.specs.Theory.{Theory}
use Rattle.hol.specs.Rules.{Derives, r_refl, r_trans, r_use, r_lam, r_beta, r_assume, r_eqmp, r_anti, r_inst, r_types, r_eta, r_some, r_unfold, r_known, r_more}
use Rattle.hol.specs.Models.{Model, Valuation, Valid, Satisfies}
use Rattle.hol.specs.Says.{Wf, «Sound», «Consistent»}
use Rattle.hol.proofs.Tools.{clash}
use Rattle.hol.proofs.Typing.{has}
use Rattle.hol.proofs.Types.{seq_has}
use Rattle.hol.proofs.Constants.{zero_valuation}
use Rattle.hol.proofs.ValidRules.{refl_valid, trans_valid, use_valid, lam_valid, beta_valid, assume_valid, eqmp_valid, anti_valid, more_valid, inst_valid, types_valid, eta_valid, some_valid, unfold_valid}

module _ {th : Theory} (m : Model) (wf : Wf th) (axioms : Satisfies th m) where
  valid : {hs : List Tm} {t : Tm} → Derives th hs t → Valid th m hs t
  valid (r_refl {t = t} e) = refl_valid m wf (seq_has wf (r_refl {t = t} e))
  valid (r_trans p q) = trans_valid m wf (seq_has wf p) (seq_has wf q) (seq_has wf (r_trans p q)) (valid p) (valid q)
  valid (r_use p q) = use_valid m wf (seq_has wf p) (seq_has wf q) (seq_has wf (r_use p q)) (valid p) (valid q)
  valid (r_lam {a = a} x o n p) = lam_valid m wf x a o n (seq_has wf p) (seq_has wf (r_lam x o n p)) (valid p)
  valid (r_beta {a = a} {t = t} {s = s} e) = beta_valid m wf (seq_has wf (r_beta {a = a} {t = t} {s = s} e))
  valid (r_assume {t = t} e) = assume_valid m wf t
  valid (r_eqmp p q) = eqmp_valid m wf (seq_has wf p) (seq_has wf q) (valid p) (valid q)
  valid (r_anti p q) = anti_valid m wf (seq_has wf p) (seq_has wf q) (seq_has wf (r_anti p q)) (valid p) (valid q)
  valid (r_inst es ok p) = inst_valid m wf es ok (seq_has wf p) (valid p)
  valid (r_types es ok p) = types_valid m wf es ok (seq_has wf p) (valid p)
  valid (r_eta {t = t} e) = eta_valid m wf (seq_has wf (r_eta {t = t} e))
  valid (r_some {p = p} {x = x} e f) = some_valid m wf (has th _ p f) (has th _ x e)
  valid (r_unfold as₁ d e) = unfold_valid m wf as₁ d e (seq_has wf (r_unfold as₁ d e))
  valid (r_known {w = c} {t = t} d) = axioms c t d
  valid (r_more i o p) = more_valid m wf (seq_has wf p) (seq_has wf (r_more i o p)) i (valid p)

pub derivations_valid : «Sound»
derivations_valid th m hs t wf axioms d = valid m wf axioms d

-- the model in which every declared type has one element
abbrev one_element : Model
one_element = record { base_card = λ c. 0; base_value = λ c ns. 0 }

-- falsehood is worth 0 in it
pub falsehood_not_derived : «Consistent»
falsehood_not_derived th wf no_axioms d =
    let valuation : Valuation one_element (λ a. 1) (λ x a. 0) = zero_valuation (λ a. omega arith) in
    clash (valid one_element wf (λ c t i. absurd (no_axioms c t i)) d (λ a. 1) (λ x a. 0) valuation refl) refl
