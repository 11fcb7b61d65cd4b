-- In a well-formed theory a constant is worth an element of its type.
use Rattle.std.proofs.Common.{◌≡◌, ℕ, ◌<◌, List, [], ◌∷◌, inl, inr, mod-lt, arith}
use mathlib.Core.Option.{some}
use Rattle.hol.specs.Base.{Word, same_word}
use Rattle.hol.specs.Syntax.{Ty, tyvar, w_eq, w_choice, w_a, bool, fun, tyvars_ty}
use Rattle.hol.specs.Theory.{d_type, d_const, d_def, d_axiom, d_thm, Theory, declared_const, const_ty, has_type}
use Rattle.hol.specs.Models.{Model, Cards, card_ty, const_value, cards_of, consts, code_eq, code_choice, head_card, Valuation}
use Rattle.hol.specs.Says.{Wf, wf_nil, wf_cons}
use Rattle.hol.proofs.Tools.{decided, both, some_same, none_some}
use Rattle.hol.proofs.Typing.{of_type}
use Rattle.hol.proofs.TypeSubst.{const_is}
use Rattle.hol.proofs.Codes.{code_eq_lt, code_choice_lt}
use Rattle.hol.proofs.Cards.{Positive, p_nil, p_cons, card_pos, cards_pos, cards_of_pos}
use Rattle.hol.proofs.TypeVars.{at_card}
use Rattle.hol.proofs.Denotes.{beside_nil, denotes, fits-nil, ConstsFit, denotes_lt}

-- the declared constants, where their type variables have ns elements
record DeclaredFit (th : Theory) (m : Model) : Type 0 where
  below : (c : Word) {a : Ty} {ns : List ℕ} → declared_const th c ≡ some a → Positive ns
      → consts m th c ns < card_ty m (cards_of (tyvars_ty a []) ns) a

-- = and @
eq_below : (m : Model) {ns : List ℕ} → Positive ns
    → code_eq (head_card ns) < card_ty m (cards_of (w_a ∷ []) ns) (fun (tyvar w_a) (fun (tyvar w_a) bool))
eq_below m p_nil = code_eq_lt 1
eq_below m (p_cons {n = n} h p) = code_eq_lt n

choice-below : (m : Model) {ns : List ℕ} → Positive ns
    → code_choice (head_card ns) < card_ty m (cards_of (w_a ∷ []) ns) (fun (fun (tyvar w_a) bool) (tyvar w_a))
choice-below m p_nil = code_choice_lt 1 (omega arith)
choice-below m (p_cons {n = n} h p) = code_choice_lt n h

-- all constants
const-below : {th : Theory} {m : Model} → DeclaredFit th m → (c : Word) {a : Ty} {ns : List ℕ} → const_ty th c ≡ some a
    → Positive ns → const_value (consts m th) c ns < card_ty m (cards_of (tyvars_ty a []) ns) a
const-below {th} {m} fit c e p = elim (decided (same_word c w_eq)) [
  | inl q ↦ rw (q, ← some_same (rw q at e)) (eq_below m p)
  | inr q ↦ elim (decided (same_word c w_choice)) [
    | inl r ↦ rw (q, r, ← some_same (rw (q, r) at e)) (choice-below m p)
    | inr r ↦ rw (q, r) (fit.below c (rw (q, r) at e) p)
  ]
]

fit_from : {th : Theory} {m : Model} {z : Cards} → ((a : Word) → 0 < z a) → DeclaredFit th m → ConstsFit th m (consts m th) z
fit_from {th} {m} {z} pos fit =
    record {
      below = λ c as₁ a e.
          let i = const_is th c as₁ e in
          rw (i.is, at_card i.ty as₁ i.count m z) (const-below fit c i.found (cards_pos m z pos as₁));
    }

-- every free variable is worth 0
pub zero_valuation : {m : Model} {z : Cards} → ((a : Word) → 0 < z a) → Valuation m z (λ x b. 0)
zero_valuation {m} {z} pos = record { inhabited = pos; fits = λ x a. card_pos m z pos a }

declared-below : {th : Theory} (m : Model) → Wf th → (c : Word) {a : Ty} {ns : List ℕ} → declared_const th c ≡ some a
    → Positive ns → consts m th c ns < card_ty m (cards_of (tyvars_ty a []) ns) a
declared-below m wf_nil c e p = none_some e
declared-below m (wf_cons {d = d_type d} h j wf) c e p = declared-below m wf c e p
declared-below m (wf_cons {d = d_const d b} h j wf) c {ns = ns} e p = elim (decided (same_word c d)) [
  | inl q ↦
      let pos = λ (x : Word). cards_of_pos (tyvars_ty b []) x p in
      rw (q, ← some_same (rw q at e)) (mod-lt (m.base_value c ns) (card_pos m _ pos b))
  | inr q ↦ rw q (declared-below m wf c (rw q at e) p)
]
declared-below m (wf_cons {d = d_def d b t} {th = th} h j wf) c {ns = ns} e p = elim (decided (same_word c d)) [
  | inl q ↦
      let pos : (x : Word) → 0 < cards_of (tyvars_ty b []) ns x = λ x. cards_of_pos (tyvars_ty b []) x p in
      let fit : DeclaredFit th m = record { below = λ v f r. declared-below m wf v f r } in
      let typed = of_type th t b (both (has_type th t b) _ (both _ _ h).1).0 in
      rw (q, ← some_same (rw q at e)) (denotes_lt (zero_valuation pos) (fit_from pos fit) fits-nil (denotes beside_nil typed))
  | inr q ↦ rw q (declared-below m wf c (rw q at e) p)
]
declared-below m (wf_cons {d = d_axiom d t} h j wf) c e p = declared-below m wf c e p
declared-below m (wf_cons {d = d_thm d s} h j wf) c e p = declared-below m wf c e p

pub consts_fit : {th : Theory} {m : Model} {z : Cards} → Wf th → ((a : Word) → 0 < z a) → ConstsFit th m (consts m th) z
consts_fit {m = m} wf pos = fit_from pos (record { below = λ c e p. declared-below m wf c e p })
