-- What a view says: the node that was read, shown, is how its number's item is made.
use Rattle.std.proofs.Common.{◌≡◌, ℕ, Bool, true, List, [], ◌∷◌, Some, None, Option as Answer, refl, arith}
use mathlib.Core.Option.{Option, some}
use Rattle.hol.specs.Base.{Word}
use Rattle.hol.specs.Syntax.{Ty, Tys, tnil, tcons, Tm}
use Rattle.store.specs.State.{Contents}
use Rattle.store.specs.Views.{NameSays, TypeSays, TypesSays, TermSays, TermsSays}
use Rattle.store.specs.declared.view.NameView.{NameView}
use Rattle.store.specs.declared.view.TypeView.{TypeView}
use Rattle.store.specs.declared.view.TermView.{TermView}
use Rattle.store.specs.declared.view.ListView.{ListView}
use Rattle.nodes.specs.declared.kind.Kind.{Kind}
use Rattle.nodes.specs.declared.node.Node.{Node}
use Rattle.nodes.specs.Items.{Item, nil, name, ty, tys, tm, tms, contents, Holds}
use Rattle.nodes.specs.Meaning.{Shows}
use Rattle.nodes.proofs.Agreeing.{no_nil}
use Rattle.nodes.proofs.Made.{Made, m_byte, m_tyvar, m_tyapp, m_tys, m_free, m_bound, m_const, m_app, m_lam, m_tms, to_made}
use Rattle.nodes.proofs.Readings.{of_types, of_terms, holds-item, types-item, terms-item}
use Rattle.plain.specs.Shown.{name_shown, type_shown, types_shown, term_shown, terms_shown}

-- HOW A NODE IS SHOWN, by what is made of it
name-made : {c : Contents} {k : Kind} {x y b : ℕ} {w : Word} → Made c k x y (name b w) → NameSays c (b ∷ w) (name_shown k x y)
name-made {c} {x = x} {y = y} (m_byte p q) =
    rw p (record { rest = _; is = refl; rest_is = q })

type_made : {c : Contents} {k : Kind} {x y : ℕ} {a : Ty} → Made c k x y (ty a) → TypeSays c a (type_shown k x y)
type_made (m_tyvar p q) = record { name = _; is = refl; name_is = q }
type_made (m_tyapp p q) = record { name = _; args = _; is = refl; name_is = p; args_are = q }

types-made : {c : Contents} {k : Kind} {x y : ℕ} {b : Ty} {bs : Tys} → Made c k x y (tys b bs) → TypesSays c (tcons b bs) (types_shown k x y)
types-made (m_tys p q) = record { head = _; tail = _; is = refl; head_is = p; tail_is = q }

term_made : {c : Contents} {k : Kind} {x y : ℕ} {t : Tm} → Made c k x y (tm t) → TermSays c t (term_shown k x y)
term_made (m_free p q) = record { name = _; ty = _; is = refl; name_is = p; ty_is = q }
term_made (m_bound p) = refl
term_made (m_const p q) = record { name = _; args = _; is = refl; name_is = p; args_are = q }
term_made (m_app p q) = record { func = _; arg = _; is = refl; func_is = p; arg_is = q }
term_made (m_lam p q) = record { ty = _; body = _; is = refl; ty_is = p; body_is = q }

terms-made : {c : Contents} {k : Kind} {x y : ℕ} {t : Tm} {ts : List Tm} → Made c k x y (tms t ts)
    → TermsSays c (t ∷ ts) (terms_shown k x y)
terms-made (m_tms p q) = record { head = _; tail = _; is = refl; head_is = p; tail_is = q }

-- A NUMBER WITH A NODE: d is the node, and shows says what is made of it
module _ (f : ℕ → Option Item) (n : ℕ) (d : Node) (shows : (i : Item) → Holds (contents f) n i → Shows (contents f) n i (Some d)) where
  made-item : (i : Item) → Holds (contents f) n i → Made (contents f) d.kind d.x d.y i
  made-item i h = to_made (contents f) d.kind d.x d.y (shows i h)

  pub name_says : (r : Answer NameView) → r ≡ name_shown d.kind d.x d.y → (w : Word) → (contents f).word n ≡ some w → NameSays (contents f) w r
  name_says r e [] h = absurd (no_nil (made-item nil h))
  name_says r e (b ∷ w) h = rw e (name-made (made-item (name b w) h))

  pub type_says : (r : Answer TypeView) → r ≡ type_shown d.kind d.x d.y → (a : Ty) → (contents f).typ n ≡ some a → TypeSays (contents f) a r
  type_says r e a h = rw e (type_made (made-item (ty a) h))

  pub types_says : (r : Answer ListView) → r ≡ types_shown d.kind d.x d.y → (bs : Tys) → (contents f).types n ≡ some bs
      → TypesSays (contents f) bs r
  types_says r e tnil h = absurd (no_nil (made-item nil (holds-item f n nil (types-item f n tnil h))))
  types_says r e (tcons b bs) h = rw e (types-made (made-item (tys b bs) h))

  pub term_says : (r : Answer TermView) → r ≡ term_shown d.kind d.x d.y → (t : Tm) → (contents f).term n ≡ some t → TermSays (contents f) t r
  term_says r e t h = rw e (term_made (made-item (tm t) h))

  pub terms_says : (r : Answer ListView) → r ≡ terms_shown d.kind d.x d.y → (ts : List Tm) → (contents f).terms n ≡ some ts
      → TermsSays (contents f) ts r
  terms_says r e [] h = absurd (no_nil (made-item nil (holds-item f n nil (terms-item f n [] h))))
  terms_says r e (t ∷ ts) h = rw e (terms-made (made-item (tms t ts) h))

-- A NUMBER WITH NO NODE stands for nothing, but for 0
module _ (f : ℕ → Option Item) (n : ℕ) (shows : (i : Item) → Holds (contents f) n i → Shows (contents f) n i None) where
  pub no_type : (a : Ty) → (contents f).typ n ≡ some a → ⊥
  no_type a h = let z = (shows (ty a) h).1 in let u : ◌≡◌ {A = ℕ} 0 1 = cc in omega arith

  pub no_term : (t : Tm) → (contents f).term n ≡ some t → ⊥
  no_term t h = let z = (shows (tm t) h).1 in let u : ◌≡◌ {A = ℕ} 0 1 = cc in omega arith

  module _ (ne : n ≡ 0 → ⊥) where
    pub no_name : (w : Word) → (contents f).word n ≡ some w → ⊥
    no_name [] h = ne (shows nil h).0
    no_name (b ∷ w) h = ne (shows (name b w) h).0

    pub no_types : (bs : Tys) → (contents f).types n ≡ some bs → ⊥
    no_types bs h = ne (shows (of_types bs) (holds-item f n (of_types bs) (types-item f n bs h))).0

    pub no_terms : (ts : List Tm) → (contents f).terms n ≡ some ts → ⊥
    no_terms ts h = ne (shows (of_terms ts) (holds-item f n (of_terms ts) (terms-item f n ts h))).0

-- COMPARING names, by what is said of all items
pub whole_name : (c : Contents) (m n : ℕ) (r : Bool) → ((i : Item) → Holds c m i → Holds c n i → r ≡ true)
    → (w : Word) → c.word m ≡ some w → c.word n ≡ some w → r ≡ true
whole_name c m n r h [] = h nil
whole_name c m n r h (b ∷ w) = h (name b w)
