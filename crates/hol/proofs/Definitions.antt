-- Values are the same in every larger theory, and a defined constant is worth what its term is worth.
use Rattle.std.proofs.Common.{◌≡◌, ℕ, true, false, not, List, [], ◌∷◌, sym, refl, ◌∙◌, inl, inr}
use mathlib.Core.Option.{some}
use Rattle.hol.specs.Base.{Word, same_word, among, is_some}
use Rattle.hol.specs.Syntax.{Ty, Tys, Tm, w_eq, w_choice, inst_tm, tyvars_ty, tyvars_tm, zip}
use Rattle.hol.specs.Theory.{Decl, d_type, d_const, d_def, d_axiom, d_thm, Theory, Declared, newest, older, const_ty, const_at, has_type, admissible}
use Rattle.hol.specs.Models.{Model, Cards, Values, card_tys, const_value, cards_of, consts, value}
use Rattle.hol.specs.Says.{Wf, wf_nil, wf_cons}
use Rattle.hol.proofs.Tools.{decided, clash, both, not_true, some_same, all_in}
use Rattle.hol.proofs.Equality.{word_refl, in_words}
use Rattle.hol.proofs.Typing.{of_type}
use Rattle.hol.proofs.Growth.{apart, grows_by, ok_grows, const-grows}
use Rattle.hol.proofs.TypeSubst.{const_is, zip_ok}
use Rattle.hol.proofs.Declarations.{defined}
use Rattle.hol.proofs.Cards.{subst_cards}
use Rattle.hol.proofs.TypeVars.{covered_tm, zip_card}
use Rattle.hol.proofs.Denotes.{Denotes, den_fvar, den_bvar, den_const, den_app, den_lam, beside_nil, denotes}
use Rattle.hol.proofs.Instances.{denotes_inst}
use Rattle.hol.proofs.Depends.{vars_nil, denotes_closed}

-- LARGER THEORIES
consts-kept : (th : Theory) (m : Model) (d : Decl) → admissible th d ≡ true → (c : Word) (ns : List ℕ) {a : Ty}
    → const_ty th c ≡ some a → consts m (d ∷ th) c ns ≡ consts m th c ns
consts-kept th m (d_type d) h c ns e = refl
consts-kept th m (d_const d b) h c ns e = rw (apart (const_ty th) c d e (not_true _ (both _ _ h).0))
consts-kept th m (d_def d b t) h c ns e = rw (apart (const_ty th) c d e (not_true _ (both _ _ h).0))
consts-kept th m (d_axiom d t) h c ns e = refl
consts-kept th m (d_thm d s) h c ns e = refl

module _ {th : Theory} {m : Model} {z : Cards} {w : Values} (d : Decl) (h : admissible th d ≡ true) where
  -- what a term denotes is the same after one more declaration
  denotes_grows : {g : List Ty} {vs : List ℕ} {t : Tm} {a : Ty} {n : ℕ}
      → Denotes th m (consts m th) z w g vs t a n → Denotes (d ∷ th) m (consts m (d ∷ th)) z w g vs t a n
  denotes_grows (den_fvar {a = a} o) = den_fvar (ok_grows (grows_by d h) a o)
  denotes_grows (den_bvar e q) = den_bvar e q
  denotes_grows (den_const {c = c} {as₁ = as₁} e) =
      rw (← consts-kept th m d h c (card_tys m z as₁) (const_is th c as₁ e).found)
      (den_const (const-grows {th = th} (grows_by d h) c as₁ e))
  denotes_grows (den_app f x) = den_app (denotes_grows f) (denotes_grows x)
  denotes_grows (den_lam {a = a} o t) = den_lam (ok_grows (grows_by d h) a o) (λ n. denotes_grows (t n))

-- DEFINITIONS
-- a name that no constant has is neither = nor @
new_name : (th : Theory) (c : Word) → is_some (const_ty th c) ≡ false
    → (same_word c w_eq ≡ false) × (same_word c w_choice ≡ false)
new_name th c n = elim (decided (same_word c w_eq)) [
  | inl p ↦ clash refl (rw p at n)
  | inr p ↦ elim (decided (same_word c w_choice)) [ inl q ↦ clash refl (rw (p, q) at n) | inr q ↦ (p, q) ]
]

newest_worth : (th : Theory) (m : Model) (c : Word) (a : Ty) (t : Tm) (ns : List ℕ) → is_some (const_ty th c) ≡ false
    → const_value (consts m (d_def c a t ∷ th)) c ns
    ≡ value th m (consts m th) (cards_of (tyvars_ty a []) ns) (λ x b. 0) [] [] t
newest_worth th m c a t ns new = let (not_eq, not_choice) = new_name th c new in rw (not_eq, not_choice, word_refl c)

-- a defined constant is worth what its term is worth, where the type variables have ns elements
def_denotes : {th : Theory} {c : Word} {a : Ty} {t : Tm} (m : Model) (ns : List ℕ) → Wf th → Declared th (d_def c a t)
    → Denotes th m (consts m th) (cards_of (tyvars_ty a []) ns) (λ x b. 0) [] [] t a (const_value (consts m th) c ns)
def_denotes m ns wf_nil d = elim d [ ]
def_denotes m ns (wf_cons {th = th} h j wf) (newest {d = d_def c a t}) =
    let (new, rest) = both (not (is_some (const_ty th c))) _ h in
    let typed = of_type th t a (both (has_type th t a) _ rest).0 in
    rw (newest_worth th m c a t ns (not_true _ new)) (denotes_grows (d_def c a t) h (denotes beside_nil typed))
def_denotes {c = c} m ns (wf_cons {d = e} {th = th} h j wf) (older d) =
    rw (consts-kept th m e h c ns (defined wf d).found) (denotes_grows e h (def_denotes m ns wf d))

-- the same at types for the type variables
pub unfold_denotes : {th : Theory} {m : Model} {z : Cards} {w : Values} {c : Word} {a b : Ty} {t : Tm} (as₁ : Tys)
    → Wf th → Declared th (d_def c a t) → const_at th c as₁ ≡ some b
    → Denotes th m (consts m th) z w [] [] (inst_tm (zip (tyvars_ty a []) as₁) t) b
    (const_value (consts m th) c (card_tys m z as₁))
unfold_denotes {th} {m} {z} {w} {c} {a} {b} {t} as₁ wf d e =
    let i = const_is th c as₁ e in
    let f = defined wf d in
    let same : i.ty ≡ a = some_same (sym i.found ∙ f.found) in
    let ws = tyvars_ty a [] in
    let ns = card_tys m z as₁ in
    let es = zip ws as₁ in
    let count = rw same at i.count in
    let listed = λ (x : Word) (h : among x (tyvars_tm t []) ≡ true). all_in (λ v. among v ws) f.tyvars (in_words x _ h) in
    let cards = λ (x : Word) (h : among x (tyvars_tm t []) ≡ true). sym (zip_card m z ws as₁ count x (listed x h)) in
    let vars = covered_tm (λ x. cards_of ws ns x ≡ subst_cards m z es x) t [] cards in
    rw (i.is, same)
    (denotes_inst {w = w} es (zip_ok th ws as₁ i.ok) (denotes_closed vars_nil vars f.no_free (def_denotes m ns wf d)))
