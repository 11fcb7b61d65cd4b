-- Two numbers with nodes: they stand for the same if their nodes agree and the parts stand for the same; and only then.
use Rattle.std.proofs.Common.{◌≡◌, ℕ, ◌<◌, ◌≤◌, true, false, eqb, ◌≢◌, ◌⊎◌, List, [], ◌∷◌, length, Some, None, Option as Answer, sym, refl, ap, ◌∙◌, subst, inl, inr, arith}
use mathlib.Core.Option.{Option, some}
use Rattle.hol.specs.Base.{Word, bind, guard}
use Rattle.hol.specs.Syntax.{Ty, Tys, Tm}
use Rattle.store.specs.State.{Contents}
use Rattle.nodes.specs.declared.kind.Kind.{Kind}
use Rattle.nodes.specs.declared.kind.Kind.TheVariants.{Byte, TypeVariable, TypeNamed, TypeCell, Free, Bound, Constant, Apply, Lambda, TermCell}
use Rattle.nodes.specs.declared.node.Node.{Node}
use Rattle.nodes.specs.declared.pair.Pair.{Pair}
use Rattle.nodes.specs.Kinds.{first_is_node}
use Rattle.nodes.specs.Table.{look}
use Rattle.nodes.specs.Items.{Item, nil, ty, tm, contents, tree_size}
use Rattle.nodes.specs.Meaning.{made, mean, items}
use Rattle.nodes.specs.Comparing.{Agree, Same, OneLeft, TwoLeft}
use Rattle.nodes.proofs.Made.{Made, m_byte, m_tyvar, m_tyapp, m_tys, m_free, m_bound, m_const, m_app, m_lam, m_tms}
use Rattle.nodes.proofs.Readings.{item-held, of_word, of_types, of_terms, word-item, types-item, terms-item}
use Rattle.nodes.proofs.Rows.{look_new, look_old}
use Rattle.nodes.proofs.Numbers.{items_new, items_old, newest, opened}

-- WHAT IS MADE depends on what the parts stand for
made_agree : (f g : ℕ → Option Item) (k : Kind) (x y v w : ℕ) → (first_is_node k ≡ true → f x ≡ g v) → (first_is_node k ≡ false → x ≡ v)
    → f y ≡ g w → made (contents f) k x y ≡ made (contents g) k v w
made_agree f g Byte x y v w hx hp hy = rw (hp refl, hy)
made_agree f g TypeVariable x y v w hx hp hy = rw (hx refl, hy)
made_agree f g TypeNamed x y v w hx hp hy = rw (hx refl, hy)
made_agree f g TypeCell x y v w hx hp hy = rw (hx refl, hy)
made_agree f g Free x y v w hx hp hy = rw (hx refl, hy)
made_agree f g Bound x y v w hx hp hy = rw (hp refl, hy)
made_agree f g Constant x y v w hx hp hy = rw (hx refl, hy)
made_agree f g Apply x y v w hx hp hy = rw (hx refl, hy)
made_agree f g Lambda x y v w hx hp hy = rw (hx refl, hy)
made_agree f g TermCell x y v w hx hp hy = rw (hx refl, hy)

mean_agree : (f g : ℕ → Option Item) (d : Node) → (first_is_node d.kind ≡ true → f d.x ≡ g d.x) → f d.y ≡ g d.y
    → mean (contents f) (Some d) ≡ mean (contents g) (Some d)
mean_agree f g d hx hy = rw (made_agree f g d.kind d.x d.y d.x d.y hx (λ _. refl) hy)

look_le : (ds : List (Answer Node)) (n : ℕ) {d : Node} → look ds n ≡ Some d → n ≤ length ds
look_le [] n e = absurd (let z : ◌≡◌ {A = ℕ} 0 1 = cc in omega arith)
look_le (o ∷ ds) n e =
    elim (newest ds n) [ inl t ↦ omega arith | inr f ↦ omega (arith, look_le ds n (sym (look_old o ds n f) ∙ e)) ]

-- a number whose node has smaller parts stands for what the node does
items-look : (ds : List (Answer Node)) (n : ℕ) (d : Node) → look ds n ≡ Some d → d.y < n → (first_is_node d.kind ≡ true → d.x < n)
    → items ds n ≡ mean (contents (items ds)) (Some d)
items-look [] n d e hy hx = cc
items-look (o ∷ ds) n d e hy hx =
    elim (newest ds n) [
      | inl t ↦
          let is : o ≡ Some d = sym (ap (look (o ∷ ds)) t ∙ look_new o ds) ∙ e in
          ap (items (o ∷ ds)) t ∙ items_new o ds ∙ ap (mean (contents (items ds))) is
          ∙ mean_agree (items ds) (items (o ∷ ds)) d (λ h. sym (items_old o ds d.x (omega (arith, hx h))))
          (sym (items_old o ds d.y (omega arith)))
      | inr f ↦
          let found : look ds n ≡ Some d = sym (look_old o ds n f) ∙ e in
          let le = look_le ds n found in
          items_old o ds n f ∙ items-look ds n d found hy hx
          ∙ mean_agree (items ds) (items (o ∷ ds)) d (λ h. sym (items_old o ds d.x (omega (arith, hx h))))
          (sym (items_old o ds d.y (omega arith)))
    ]

-- numbers with agreeing nodes and parts that stand for the same stand for the same
agree_sound : (ds : List (Answer Node)) (a b : ℕ) (c d : Node) → look ds a ≡ Some c → look ds b ≡ Some d → Agree a c b d
    → (first_is_node c.kind ≡ true → items ds c.x ≡ items ds d.x) → items ds c.y ≡ items ds d.y → items ds a ≡ items ds b
agree_sound ds a b c d ea eb g hx hy =
    let k = g.kind in
    let first : first_is_node d.kind ≡ true → d.x < b = λ h. (g.first (ap first_is_node k ∙ h)).1 in
    let m = made_agree (items ds) (items ds) c.kind c.x c.y d.x d.y hx g.plain hy in
    let kinds = ap (λ k. made (contents (items ds)) k d.x d.y) g.kind in
    let sized : ℕ → Option Item → Option Item = λ z o. bind o (λ i. guard (eqb z (tree_size i)) (some i)) in
    items-look ds a c ea g.second.0 (λ h. (g.first h).0)
    ∙ ap (sized c.size) (m ∙ kinds) ∙ ap (λ z. sized z (made (contents (items ds)) d.kind d.x d.y)) g.size
    ∙ sym (items-look ds b d eb g.second.1 first)

-- two numbers stand for the same in one of the five ways
data Shared (c : Contents) (p q : ℕ) : Type 0 where
  sh_word : {w : Word} → c.word p ≡ some w → c.word q ≡ some w → Shared c p q
  sh_typ : {a : Ty} → c.typ p ≡ some a → c.typ q ≡ some a → Shared c p q
  sh_types : {bs : Tys} → c.types p ≡ some bs → c.types q ≡ some bs → Shared c p q
  sh_term : {t : Tm} → c.term p ≡ some t → c.term q ≡ some t → Shared c p q
  sh_terms : {ts : List Tm} → c.terms p ≡ some ts → c.terms q ≡ some ts → Shared c p q

same_item : (f : ℕ → Option Item) (p q : ℕ) (i : Item) → f p ≡ some i → f q ≡ some i → Same f p q
same_item f p q i g h = record { item = i; left = g; right = h }

shared_same : (f : ℕ → Option Item) (p q : ℕ) → Shared (contents f) p q → Same f p q
shared_same f p q (sh_word {w} g h) = same_item f p q (of_word w) (word-item f p w g) (word-item f q w h)
shared_same f p q (sh_typ {a} g h) = same_item f p q (ty a) (item-held f p (ty a) g) (item-held f q (ty a) h)
shared_same f p q (sh_types {bs} g h) = same_item f p q (of_types bs) (types-item f p bs g) (types-item f q bs h)
shared_same f p q (sh_term {t} g h) = same_item f p q (tm t) (item-held f p (tm t) g) (item-held f q (tm t) h)
shared_same f p q (sh_terms {ts} g h) = same_item f p q (of_terms ts) (terms-item f p ts g) (terms-item f q ts h)

-- nodes that make the same are of one kind and have the same parts
record Twins (c : Contents) (k : Kind) (x y : ℕ) (j : Kind) (v w : ℕ) : Type 0 where
  kind : k ≡ j
  plain : first_is_node k ≡ false → x ≡ v
  first : first_is_node k ≡ true → Shared c x v
  second : Shared c y w

twin : {c : Contents} {k : Kind} {x y v w : ℕ} → first_is_node k ≡ true → Shared c x v → Shared c y w → Twins c k x y k v w
twin e p q = record { kind = refl; plain = λ h. absurd (let z : ◌≡◌ {A = ℕ} 0 1 = cc in omega arith); first = λ _. p; second = q }

plain_twin : {c : Contents} {k : Kind} {x y w : ℕ} → first_is_node k ≡ false → Shared c y w → Twins c k x y k x w
plain_twin e q = record { kind = refl; plain = λ _. refl; first = λ h. absurd (let z : ◌≡◌ {A = ℕ} 0 1 = cc in omega arith); second = q }

twins : {c : Contents} {k j : Kind} {x y v w : ℕ} {i : Item} → Made c k x y i → Made c j v w i → Twins c k x y j v w
twins (m_byte _ q) (m_byte _ h) = plain_twin refl (sh_word q h)
twins (m_tyvar p q) (m_tyvar g h) = twin refl (sh_word q h) (sh_word p g)
twins (m_tyapp p q) (m_tyapp g h) = twin refl (sh_word p g) (sh_types q h)
twins (m_tys p q) (m_tys g h) = twin refl (sh_typ p g) (sh_types q h)
twins (m_free p q) (m_free g h) = twin refl (sh_word p g) (sh_typ q h)
twins (m_bound p) (m_bound g) = plain_twin refl (sh_word p g)
twins (m_const p q) (m_const g h) = twin refl (sh_word p g) (sh_types q h)
twins (m_app p q) (m_app g h) = twin refl (sh_term p g) (sh_term q h)
twins (m_lam p q) (m_lam g h) = twin refl (sh_typ p g) (sh_term q h)
twins (m_tms p q) (m_tms g h) = twin refl (sh_term p g) (sh_terms q h)

-- no node makes an empty name or list
pub no_nil : {c : Contents} {k : Kind} {x y : ℕ} → Made c k x y nil → ⊥
no_nil m = elim m [ ]

-- two numbers that stand for the same, and differ, have nodes that agree, and their parts stand for the same
record Parted (ds : List (Answer Node)) (a b : ℕ) (c d : Node) : Type 0 where
  agree : Agree a c b d
  first : first_is_node c.kind ≡ true → Same (items ds) c.x d.x
  second : Same (items ds) c.y d.y

parted : (ds : List (Answer Node)) (a b : ℕ) → a ≢ b → Same (items ds) a b
    → (c : Node) × (d : Node) × (look ds a ≡ Some c) × (look ds b ≡ Some d) × Parted ds a b c d
parted ds a b ne s =
    elim (opened ds a s.item s.left) [
      | inl z ↦
          elim (opened ds b s.item s.right) [
            | inl y ↦ absurd (ne (z.0 ∙ sym y.0))
            | inr v ↦ absurd (no_nil (subst (Made (contents (items ds)) v.node.kind v.node.x v.node.y) z.1 v.parts))
          ]
      | inr u ↦
          elim (opened ds b s.item s.right) [
            | inl y ↦ absurd (no_nil (subst (Made (contents (items ds)) u.node.kind u.node.x u.node.y) y.1 u.parts))
            | inr v ↦
                let t = twins u.parts v.parts in (
                  u.node,
                  v.node,
                  u.found,
                  v.found,
                  record {
                    agree = record {
                      kind = t.kind;
                      size = u.size ∙ sym v.size;
                      plain = t.plain;
                      first = λ h. (u.first h, v.first (ap first_is_node (sym t.kind) ∙ h));
                      second = (u.second, v.second);
                    };
                    first = λ h. shared_same (items ds) _ _ (t.first h);
                    second = shared_same (items ds) _ _ t.second;
                  },
                )
          ]
    ]

-- WHAT IS LEFT TO COMPARE of two numbers that differ
module _ (ds : List (Answer Node)) (p : Pair) (ne : p.a ≡ p.b → ⊥) where
  pub no_node : (None ≡ look ds p.a) ⊎ (None ≡ look ds p.b) → Same (items ds) p.a p.b → ⊥
  no_node (inl e) s = let w = parted ds p.a p.b ne s in let z : ◌≡◌ {A = ℕ} 0 1 = cc w.2 in omega arith
  no_node (inr e) s = let w = parted ds p.a p.b ne s in let z : ◌≡◌ {A = ℕ} 0 1 = cc w.3 in omega arith

  module _ (c d : Node) (c_is : Some c ≡ look ds p.a) (d_is : Some d ≡ look ds p.b) where
    parts : Same (items ds) p.a p.b → Parted ds p.a p.b c d
    parts s =
        let w = parted ds p.a p.b ne s in
        let c_same : w.0 ≡ c = cc w.2 in
        let d_same : w.1 ≡ d = cc w.3 in
        subst (λ v. Parted ds p.a p.b v d) c_same (subst (λ v. Parted ds p.a p.b w.0 v) d_same w.4)

    pub apart : (Agree p.a c p.b d → ⊥) → Same (items ds) p.a p.b → ⊥
    apart h s = h (parts s).agree

    module _ (n : ℕ) (sized : length ds ≡ n) (agree : Agree p.a c p.b d) where
      pub one_left : false ≡ first_is_node c.kind → OneLeft (items ds) n p (record { a = c.y; b = d.y })
      one_left is =
          record {
            number = omega (arith, look_le ds p.a (sym c_is));
            smaller = agree.second.0;
            sound = agree_sound ds p.a p.b c d (sym c_is) (sym d_is) agree
                (λ h. absurd (let z : ◌≡◌ {A = ℕ} 0 1 = cc in omega arith));
            complete = λ s. (parts s).second;
          }

      pub two-left : true ≡ first_is_node c.kind
          → TwoLeft (items ds) n p (record { a = c.x; b = d.x }) (record { a = c.y; b = d.y })
      two-left is =
          record {
            number = omega (arith, look_le ds p.a (sym c_is));
            smaller = ((agree.first (sym is)).0, agree.second.0);
            sound = λ hx hy. agree_sound ds p.a p.b c d (sym c_is) (sym d_is) agree (λ _. hx) hy;
            complete = λ s. ((parts s).first (sym is), (parts s).second);
          }
