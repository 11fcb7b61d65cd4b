-- Items read as names, types, terms and lists of them: what each reading says of the item.
use Rattle.std.proofs.Common.{◌≡◌, ℕ, List, [], ◌∷◌, refl, ap, ◌∙◌}
use mathlib.Core.Option.{Option, some}
use Rattle.hol.specs.Base.{Word}
use Rattle.hol.specs.Syntax.{Ty, Tys, tnil, tcons, Tm}
use Rattle.nodes.specs.Items.{Item, nil, name, ty, tys, tm, tms, as_word, as_type, as_types, as_term, as_terms, contents, Holds}
use Rattle.nodes.proofs.Made.{bind_inv}

word-nil : (j : Item) → as_word j ≡ some [] → j ≡ nil
word-nil nil e = refl
word-nil (name b w) e = cc
word-nil (ty a) e = cc
word-nil (tys a as₁) e = cc
word-nil (tm t) e = cc
word-nil (tms t ts) e = cc

word-name : (j : Item) {b : ℕ} {w : Word} → as_word j ≡ some (b ∷ w) → j ≡ name b w
word-name nil e = cc
word-name (name b w) e = cc
word-name (ty a) e = cc
word-name (tys a as₁) e = cc
word-name (tm t) e = cc
word-name (tms t ts) e = cc

type_ty : (j : Item) {a : Ty} → as_type j ≡ some a → j ≡ ty a
type_ty nil e = cc
type_ty (name b w) e = cc
type_ty (ty a) e = cc
type_ty (tys a as₁) e = cc
type_ty (tm t) e = cc
type_ty (tms t ts) e = cc

types-nil : (j : Item) → as_types j ≡ some tnil → j ≡ nil
types-nil nil e = cc
types-nil (name b w) e = cc
types-nil (ty a) e = cc
types-nil (tys a as₁) e = cc
types-nil (tm t) e = cc
types-nil (tms t ts) e = cc

types-tys : (j : Item) {a : Ty} {bs : Tys} → as_types j ≡ some (tcons a bs) → j ≡ tys a bs
types-tys nil e = cc
types-tys (name b w) e = cc
types-tys (ty a) e = cc
types-tys (tys a as₁) e = cc
types-tys (tm t) e = cc
types-tys (tms t ts) e = cc

term_tm : (j : Item) {t : Tm} → as_term j ≡ some t → j ≡ tm t
term_tm nil e = cc
term_tm (name b w) e = cc
term_tm (ty a) e = cc
term_tm (tys a as₁) e = cc
term_tm (tm t) e = cc
term_tm (tms t ts) e = cc

terms-nil : (j : Item) → as_terms j ≡ some [] → j ≡ nil
terms-nil nil e = cc
terms-nil (name b w) e = cc
terms-nil (ty a) e = cc
terms-nil (tys a as₁) e = cc
terms-nil (tm t) e = cc
terms-nil (tms t ts) e = cc

terms-tms : (j : Item) {t : Tm} {ts : List Tm} → as_terms j ≡ some (t ∷ ts) → j ≡ tms t ts
terms-tms nil e = cc
terms-tms (name b w) e = cc
terms-tms (ty a) e = cc
terms-tms (tys a as₁) e = cc
terms-tms (tm t) e = cc
terms-tms (tms t ts) e = cc

-- a number stands for the item that the contents hold
pub item-held : (f : ℕ → Option Item) (n : ℕ) (i : Item) → Holds (contents f) n i → f n ≡ some i
item-held f n nil h = let a = bind_inv (f n) h in a.1 ∙ ap some (word-nil a.0 a.2)
item-held f n (name b w) h = let a = bind_inv (f n) h in a.1 ∙ ap some (word-name a.0 a.2)
item-held f n (ty t) h = let a = bind_inv (f n) h in a.1 ∙ ap some (type_ty a.0 a.2)
item-held f n (tys b bs) h = let a = bind_inv (f n) h in a.1 ∙ ap some (types-tys a.0 a.2)
item-held f n (tm t) h = let a = bind_inv (f n) h in a.1 ∙ ap some (term_tm a.0 a.2)
item-held f n (tms t ts) h = let a = bind_inv (f n) h in a.1 ∙ ap some (terms-tms a.0 a.2)

pub holds-item : (f : ℕ → Option Item) (n : ℕ) (i : Item) → f n ≡ some i → Holds (contents f) n i
holds-item f n nil e = rw e
holds-item f n (name b w) e = rw e
holds-item f n (ty a) e = rw e
holds-item f n (tys a as₁) e = rw e
holds-item f n (tm t) e = rw e
holds-item f n (tms t ts) e = rw e

-- the item of a name, of a list of types and of a list of terms
abbrev pub of_word : Word → Item
of_word [] = nil
of_word (b ∷ w) = name b w

abbrev pub of_types : Tys → Item
of_types tnil = nil
of_types (tcons a as₁) = tys a as₁

abbrev pub of_terms : List Tm → Item
of_terms [] = nil
of_terms (t ∷ ts) = tms t ts

pub word-item : (f : ℕ → Option Item) (n : ℕ) (w : Word) → (contents f).word n ≡ some w → f n ≡ some (of_word w)
word-item f n [] h = item-held f n nil h
word-item f n (b ∷ w) h = item-held f n (name b w) h

pub types-item : (f : ℕ → Option Item) (n : ℕ) (bs : Tys) → (contents f).types n ≡ some bs → f n ≡ some (of_types bs)
types-item f n tnil h = let a = bind_inv (f n) h in a.1 ∙ ap some (types-nil a.0 a.2)
types-item f n (tcons a as₁) h = item-held f n (tys a as₁) h

pub terms-item : (f : ℕ → Option Item) (n : ℕ) (ts : List Tm) → (contents f).terms n ≡ some ts → f n ≡ some (of_terms ts)
terms-item f n [] h = let a = bind_inv (f n) h in a.1 ∙ ap some (terms-nil a.0 a.2)
terms-item f n (t ∷ ts) h = item-held f n (tms t ts) h
