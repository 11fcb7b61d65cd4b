-- What numbers stand for: older numbers stay, a number's node makes it from smaller numbers.
use Rattle.std.proofs.Common.{◌≡◌, ℕ, suc, ◌<◌, ◌≤◌, Bool, true, false, eqb, ◌≢◌, ◌⊎◌, List, [], ◌∷◌, length, Some, None, Option as Answer, sym, refl, ap, ◌∙◌, inl, inr, arith, eq-eqb, ne_eqb, eqb-true}
use mathlib.Core.Option.{Option, some, none}
use borrow.Author.Tests.{eqb-false}
use Rattle.hol.specs.Base.{Word}
use Rattle.hol.specs.Syntax.{Ty, Tys, Tm}
use Rattle.store.specs.State.{Contents}
use Rattle.nodes.specs.declared.kind.Kind.{Kind}
use Rattle.nodes.specs.declared.node.Node.{Node}
use Rattle.nodes.specs.Kinds.{first_is_node}
use Rattle.nodes.specs.Table.{look}
use Rattle.nodes.specs.Items.{Item, nil, contents, tree_size}
use Rattle.nodes.specs.Meaning.{made, mean, items}
use Rattle.nodes.proofs.Made.{Made, m_byte, m_tyvar, m_tyapp, m_tys, m_free, m_bound, m_const, m_app, m_lam, m_tms, bind_inv, guard_inv, some_inj, to_made}
use Rattle.nodes.proofs.Rows.{look_new, look_old}

decided : (b : Bool) → (b ≡ true) ⊎ (b ≡ false)
decided true = inl refl
decided false = inr refl

-- the newest number, and the older ones
pub items_new : (o : Answer Node) (ds : List (Answer Node)) → items (o ∷ ds) (suc (length ds)) ≡ mean (contents (items ds)) o
items_new o ds = rw (eq-eqb (suc (length ds)) (suc (length ds)) refl)

pub items_old : (o : Answer Node) (ds : List (Answer Node)) (n : ℕ) → n ≢ suc (length ds) → items (o ∷ ds) n ≡ items ds n
items_old o ds n h = rw (ne_eqb n (suc (length ds)) h)

pub items_zero : (ds : List (Answer Node)) → items ds 0 ≡ some nil
items_zero [] = refl
items_zero (o ∷ ds) = items_old o ds 0 (omega arith) ∙ items_zero ds

-- with no nodes only 0 stands for something
items_none : (n : ℕ) (i : Item) → items [] n ≡ some i → (n ≡ 0) × (i ≡ nil)
items_none n i e =
    elim (decided (eqb n 0)) [
      | inl t ↦ (eqb-true n 0 t, some_inj (sym e ∙ rw t))
      | inr f ↦ let x : some i ≡ none = sym e ∙ rw f in (cc, cc)
    ]

-- is n the newest number?
pub newest : (ds : List (Answer Node)) (n : ℕ) → (n ≡ suc (length ds)) ⊎ (n ≢ suc (length ds))
newest ds n =
    elim (decided (eqb n (suc (length ds)))) [ inl t ↦ inl (eqb-true _ _ t) | inr f ↦ inr (eqb-false n (suc (length ds)) f) ]

pub items_le : (ds : List (Answer Node)) (n : ℕ) (i : Item) → items ds n ≡ some i → n ≤ length ds
items_le [] n i e = omega (arith, (items_none n i e).0)
items_le (o ∷ ds) n i e =
    elim (newest ds n) [
      | inl t ↦ omega arith
      | inr f ↦ omega (arith, items_le ds n i (sym (items_old o ds n f) ∙ e))
    ]

-- what f has at p, g has there
abbrev pub KeptAt : (f g : ℕ → Option Item) → ℕ → Type 0
KeptAt f g p = (j : Item) → f p ≡ some j → g p ≡ some j

pub items_kept : (o : Answer Node) (ds : List (Answer Node)) (n : ℕ) → KeptAt (items ds) (items (o ∷ ds)) n
items_kept o ds n j e = let h = items_le ds n j e in items_old o ds n (omega arith) ∙ e

-- what c has at p in one of the five ways, d has there
pub record KeepsAt (c d : Contents) (p : ℕ) : Type 0 where
  pub word : {w : Word} → c.word p ≡ some w → d.word p ≡ some w
  pub typ : {a : Ty} → c.typ p ≡ some a → d.typ p ≡ some a
  pub types : {bs : Tys} → c.types p ≡ some bs → d.types p ≡ some bs
  pub term : {t : Tm} → c.term p ≡ some t → d.term p ≡ some t
  pub terms : {ts : List Tm} → c.terms p ≡ some ts → d.terms p ≡ some ts

pub keeps_at : (f g : ℕ → Option Item) (p : ℕ) → KeptAt f g p → KeepsAt (contents f) (contents g) p
keeps_at f g p h =
    record {
      word = λ e. let a = bind_inv (f p) e in rw (h a.0 a.1) a.2;
      typ = λ e. let a = bind_inv (f p) e in rw (h a.0 a.1) a.2;
      types = λ e. let a = bind_inv (f p) e in rw (h a.0 a.1) a.2;
      term = λ e. let a = bind_inv (f p) e in rw (h a.0 a.1) a.2;
      terms = λ e. let a = bind_inv (f p) e in rw (h a.0 a.1) a.2;
    }

-- WHAT A NODE IS MADE OF is the same where its parts are kept
pub made_kept : {c d : Contents} {k : Kind} {x y : ℕ} {i : Item} → (first_is_node k ≡ true → KeepsAt c d x) → KeepsAt c d y
    → Made c k x y i → Made d k x y i
made_kept hx hy (m_byte p q) = m_byte p (hy.word q)
made_kept hx hy (m_tyvar p q) = m_tyvar (hy.word p) ((hx refl).word q)
made_kept hx hy (m_tyapp p q) = m_tyapp ((hx refl).word p) (hy.types q)
made_kept hx hy (m_tys p q) = m_tys ((hx refl).typ p) (hy.types q)
made_kept hx hy (m_free p q) = m_free ((hx refl).word p) (hy.typ q)
made_kept hx hy (m_bound p) = m_bound (hy.word p)
made_kept hx hy (m_const p q) = m_const ((hx refl).word p) (hy.types q)
made_kept hx hy (m_app p q) = m_app ((hx refl).term p) (hy.term q)
made_kept hx hy (m_lam p q) = m_lam ((hx refl).typ p) (hy.term q)
made_kept hx hy (m_tms p q) = m_tms ((hx refl).term p) (hy.terms q)

-- p stands for something in one of the five ways
data Stands (c : Contents) (p : ℕ) : Type 0 where
  s_word : {w : Word} → c.word p ≡ some w → Stands c p
  s_typ : {a : Ty} → c.typ p ≡ some a → Stands c p
  s_types : {bs : Tys} → c.types p ≡ some bs → Stands c p
  s_term : {t : Tm} → c.term p ≡ some t → Stands c p
  s_terms : {ts : List Tm} → c.terms p ≡ some ts → Stands c p

stands_le : (ds : List (Answer Node)) {p : ℕ} → Stands (contents (items ds)) p → p ≤ length ds
stands_le ds {p} (s_word e) = let a = bind_inv (items ds p) e in items_le ds p a.0 a.1
stands_le ds {p} (s_typ e) = let a = bind_inv (items ds p) e in items_le ds p a.0 a.1
stands_le ds {p} (s_types e) = let a = bind_inv (items ds p) e in items_le ds p a.0 a.1
stands_le ds {p} (s_term e) = let a = bind_inv (items ds p) e in items_le ds p a.0 a.1
stands_le ds {p} (s_terms e) = let a = bind_inv (items ds p) e in items_le ds p a.0 a.1

-- the parts of a node that makes something stand for something
second-stands : {c : Contents} {k : Kind} {x y : ℕ} {i : Item} → Made c k x y i → Stands c y
second-stands (m_byte p q) = s_word q
second-stands (m_tyvar p q) = s_word p
second-stands (m_tyapp p q) = s_types q
second-stands (m_tys p q) = s_types q
second-stands (m_free p q) = s_typ q
second-stands (m_bound p) = s_word p
second-stands (m_const p q) = s_types q
second-stands (m_app p q) = s_term q
second-stands (m_lam p q) = s_term q
second-stands (m_tms p q) = s_terms q

first-stands : {c : Contents} {k : Kind} {x y : ℕ} {i : Item} → Made c k x y i → first_is_node k ≡ true → Stands c x
first-stands (m_byte p q) e = absurd (let z : ◌≡◌ {A = ℕ} 0 1 = cc in omega arith)
first-stands (m_tyvar p q) e = s_word q
first-stands (m_tyapp p q) e = s_word p
first-stands (m_tys p q) e = s_typ p
first-stands (m_free p q) e = s_word p
first-stands (m_bound p) e = absurd (let z : ◌≡◌ {A = ℕ} 0 1 = cc in omega arith)
first-stands (m_const p q) e = s_word p
first-stands (m_app p q) e = s_term p
first-stands (m_lam p q) e = s_typ p
first-stands (m_tms p q) e = s_term p

pub second_below : (ds : List (Answer Node)) {k : Kind} {x y : ℕ} {i : Item} → Made (contents (items ds)) k x y i → y ≤ length ds
second_below ds m = stands_le ds (second-stands m)

pub first_below : (ds : List (Answer Node)) {k : Kind} {x y : ℕ} {i : Item} → Made (contents (items ds)) k x y i → first_is_node k ≡ true
    → x ≤ length ds
first_below ds m is = stands_le ds (first-stands m is)

-- THE NODE of a number that stands for something
pub record Opened (ds : List (Answer Node)) (n : ℕ) (i : Item) : Type 0 where
  pub node : Node
  pub found : look ds n ≡ Some node
  pub parts : Made (contents (items ds)) node.kind node.x node.y i
  pub size : node.size ≡ tree_size i
  pub second : node.y < n
  pub first : first_is_node node.kind ≡ true → node.x < n

-- a node that stands for something is made of its parts, and has the right size
pub mean_some : (c : Contents) (d : Node) (i : Item) → mean c (Some d) ≡ some i
    → (Made c d.kind d.x d.y i) × (d.size ≡ tree_size i)
mean_some c d i e =
    let a = bind_inv (made c d.kind d.x d.y) e in
    let g = guard_inv (eqb d.size (tree_size a.0)) a.2 in
    let same : a.0 ≡ i = some_inj g.1 in
    (to_made c d.kind d.x d.y (a.1 ∙ ap some same), eqb-true _ _ g.0 ∙ ap tree_size same)

mean_inv : (c : Contents) (o : Answer Node) (i : Item) → mean c o ≡ some i → (d : Node) × (o ≡ Some d) × (mean c (Some d) ≡ some i)
mean_inv c None i e = absurd (let z : ◌≡◌ {A = ℕ} 0 1 = cc in omega arith)
mean_inv c (Some d) i e = (d, refl, e)

pub opened : (ds : List (Answer Node)) (n : ℕ) (i : Item) → items ds n ≡ some i → ((n ≡ 0) × (i ≡ nil)) ⊎ Opened ds n i
opened [] n i e = inl (items_none n i e)
opened (o ∷ ds) n i e =
    let kept : (p : ℕ) → KeepsAt (contents (items ds)) (contents (items (o ∷ ds))) p =
    λ p. keeps_at (items ds) (items (o ∷ ds)) p (items_kept o ds p) in
    elim (newest ds n) [
      | inl t ↦
          let m = mean_inv (contents (items ds)) o i (sym (items_new o ds) ∙ ap (items (o ∷ ds)) (sym t) ∙ e) in
          let w = mean_some (contents (items ds)) m.0 i m.2 in
          inr (record {
            node = m.0;
            found = ap (look (o ∷ ds)) t ∙ look_new o ds ∙ m.1;
            parts = made_kept (λ _. kept _) (kept _) w.0;
            size = w.1;
            second = omega (arith, second_below ds w.0);
            first = λ is. omega (arith, first_below ds w.0 is);
          })
      | inr f ↦
          elim (opened ds n i (sym (items_old o ds n f) ∙ e)) [
            | inl z ↦ inl z
            | inr w ↦
                inr (record {
                  node = w.node;
                  found = look_old o ds n f ∙ w.found;
                  parts = made_kept (λ _. kept _) (kept _) w.parts;
                  size = w.size;
                  second = w.second;
                  first = w.first;
                })
          ]
    ]
