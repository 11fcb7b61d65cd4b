-- How a bracket begins: by its first word.
use Rattle.std.proofs.Common.{◌≡◌, ℕ, suc, ◌*◌, ◌<◌, ◌≤◌, false, ◌⊎◌, List, ◌∷◌, ◌++◌, Some, None, Option as Maybe, sym, refl, ap, ◌∙◌, inl, inr, arith}
use mathlib.Core.Option.{Option, none}
use Rattle.std.specs.Option.{IsSomeAnd, MatchOption, option_map}
use Rattle.hol.specs.Base.{Word, same_word}
use Rattle.hol.specs.Syntax.{Tm}
use Rattle.hol.specs.Text.{Token, closes, word, Sexps, atom, list, nil, cons, read_term}
use Rattle.hol.proofs.Tools.{decided}
use Rattle.hol.proofs.Equality.{word_eq}
use Rattle.reader.specs.Flat.{flats, costs}
use Rattle.reader.proofs.Streams.{inside-word}
use Rattle.store.specs.State.{State}
use Rattle.store.proofs.Growth.{grows_same, grows-more}
use Rattle.parser_types.specs.Reads.{Reading}
use Rattle.parser.specs.Parts.{sign, Binding, FunctionNext, NoTerm, Opening}
use Rattle.parser.specs.declared.turn.Form.{Form}
use Rattle.parser.specs.declared.turn.Form.TheVariants.{Free, Constant, Application, Lambda}
use Rattle.parser.specs.declared.turn.Binder.{Binder}
use Rattle.parser.specs.declared.turn.Opened.TheVariants.{Whole, Under}
use Rattle.parser.proofs.Parts.{no_lambda}

-- another word
other : (m v : Word) → (m ≡ v → ⊥) → same_word m v ≡ false
other m v h = elim (decided (same_word m v)) [ inl e ↦ absurd (h (word_eq m v e)) | inr e ↦ e ]

-- what `map` answers
pub mapped : {A B : Type 0} (o : Maybe A) (f : A → B) (r : Maybe B) → MatchOption o (r ≡ None) (λ x. IsSomeAnd r (λ y. y ≡ f x)) → r ≡ option_map f o
mapped None f r h = h
mapped (Some x) f None h = absurd h
mapped (Some x) f (Some y) h = ap Some h

-- no form, no term
no_form : (ts : Sexps) (rs : List Token) → ((f : Form) (qs : List Token) → flats ts ++ rs ≡ word (sign f) ∷ qs → ⊥)
    → (n : ℕ) (xs : List Word) → read_term (suc n) xs (list ts) ≡ none
no_form nil rs h n xs = refl
no_form (cons (list us) ts) rs h n xs = refl
no_form (cons (atom m) ts) rs h n xs =
    let o : (f : Form) → same_word m (sign f) ≡ false =
    λ f. other m (sign f) (λ e. h f (flats ts ++ rs) (ap (λ w. word w ∷ (flats ts ++ rs)) e)) in
    rw (o Free, o Constant, o Application, o Lambda)

module _ (ts : Sexps) (qs : List Token) {ps : List Token} (e : ps ≡ flats ts ++ (closes ∷ qs)) where
  pub formless : {s : State} → ((f : Form) (os : List Token) → ps ≡ word (sign f) ∷ os → ⊥) → NoTerm s s ts
  formless h = record { reads = no_form ts (closes ∷ qs) (λ f os i. h f os (e ∙ i)); grows = grows-more (omega arith) grows_same }

  -- behind the first word
  module _ (f : Form) {rs : List Token} (i : ps ≡ word (sign f) ∷ rs) where
    pub behind_form : (us : Sexps) × (ts ≡ cons (atom (sign f)) us) × (rs ≡ flats us ++ (closes ∷ qs))
    behind_form = inside-word ts qs rs (sign f) (sym e ∙ i)

    form_cost : costs behind_form.0 ≤ costs ts
    form_cost = let l = ap costs behind_form.1 in omega arith

    pub form_short : {room left : ℕ} → (left < costs behind_form.0) ⊎ (room < 4 * costs behind_form.0)
        → (left < costs ts) ⊎ (room < 4 * costs ts)
    form_short (inl h) = let l = form_cost in inl (omega arith)
    form_short (inr h) = let l = form_cost in inr (omega arith)

    module _ (read : Sexps → Option Tm) (as₁ : (us : Sexps) (n : ℕ) (xs : List Word) → read_term (suc n) xs (list (cons (atom (sign f)) us)) ≡ read us) where
      pub form_reading : (s t : State) (os : List Token) (o : Maybe ℕ)
          → Reading (λ c. c.term) (read behind_form.0) (costs behind_form.0) s t qs os o → Opening s t ts qs os (option_map Whole o)
      form_reading s t os (Some m) a = record {
        term = a.value;
        reads = λ n xs. ap (λ us. read_term (suc n) xs (list us)) behind_form.1 ∙ as₁ behind_form.0 n xs ∙ a.reads;
        stands = a.stands;
        behind = a.behind;
        grows = grows-more form_cost a.grows;
      }
      form_reading s t os None a = record {
        reads = λ n xs. ap (λ us. read_term (suc n) xs (list us)) behind_form.1 ∙ as₁ behind_form.0 n xs ∙ a.reads;
        grows = grows-more form_cost a.grows;
      }

  pub application_next : {s : State} {rs : List Token} → ps ≡ word (sign Application) ∷ rs → FunctionNext s s ts qs rs
  application_next {rs = rs} i =
      let (us, j, k) = behind_form Application i in
      record { rest = us; is = j; behind = k; same = refl }

  pub lambda_reading : (s t : State) {rs : List Token} (os : List Token) (o : Maybe Binder) (i : ps ≡ word (sign Lambda) ∷ rs)
      → Binding s t (behind_form Lambda i).0 qs os o → Opening s t ts qs os (option_map Under o)
  lambda_reading s t os (Some b) i d = record { inside = (behind_form Lambda i).0; is = (behind_form Lambda i).1; bound = d }
  lambda_reading s t os None i d = record {
    reads = λ n xs.
        ap (λ us. read_term (suc n) xs (list us)) (behind_form Lambda i).1
        ∙ no_lambda (λ ys u. read_term n ys u) xs (behind_form Lambda i).0 d.no_binder;
    grows = grows-more (form_cost Lambda i) d.grows;
  }
