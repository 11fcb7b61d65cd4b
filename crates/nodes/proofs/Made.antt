-- What a node is made of, as a relation: made c k x y ≡ some i, by kinds.
use Rattle.std.proofs.Common.{◌≡◌, ℕ, Bool, true, false, ltb, List, [], ◌∷◌, refl, subst, arith}
use mathlib.Core.Option.{Option, some, none}
use Rattle.hol.specs.Base.{Word, bind, guard}
use Rattle.hol.specs.Syntax.{Ty, Tys, Tm, tyvar, tyapp, fvar, bvar, const, app, lam}
use Rattle.store.specs.State.{Contents}
use Rattle.nodes.specs.declared.kind.Kind.{Kind}
use Rattle.nodes.specs.declared.kind.Kind.TheVariants.{Byte, TypeVariable, TypeNamed, TypeCell, Free, Bound, Constant, Apply, Lambda, TermCell}
use Rattle.nodes.specs.Items.{Item, name, ty, tys, tm, tms}
use Rattle.nodes.specs.Meaning.{is_empty, made}

pub data Made (c : Contents) : Kind → ℕ → ℕ → Item → Type 0 where
  m_byte : {x y : ℕ} {w : Word} → ltb x 256 ≡ true → c.word y ≡ some w → Made c Byte x y (name x w)
  m_tyvar : {x y : ℕ} {w : Word} → c.word y ≡ some [] → c.word x ≡ some w → Made c TypeVariable x y (ty (tyvar w))
  m_tyapp : {x y : ℕ} {w : Word} {bs : Tys} → c.word x ≡ some w → c.types y ≡ some bs → Made c TypeNamed x y (ty (tyapp w bs))
  m_tys : {x y : ℕ} {b : Ty} {bs : Tys} → c.typ x ≡ some b → c.types y ≡ some bs → Made c TypeCell x y (tys b bs)
  m_free : {x y : ℕ} {w : Word} {b : Ty} → c.word x ≡ some w → c.typ y ≡ some b → Made c Free x y (tm (fvar w b))
  m_bound : {x y : ℕ} → c.word y ≡ some [] → Made c Bound x y (tm (bvar x))
  m_const : {x y : ℕ} {w : Word} {bs : Tys} → c.word x ≡ some w → c.types y ≡ some bs → Made c Constant x y (tm (const w bs))
  m_app : {x y : ℕ} {s t : Tm} → c.term x ≡ some s → c.term y ≡ some t → Made c Apply x y (tm (app s t))
  m_lam : {x y : ℕ} {b : Ty} {t : Tm} → c.typ x ≡ some b → c.term y ≡ some t → Made c Lambda x y (tm (lam b t))
  m_tms : {x y : ℕ} {t : Tm} {ts : List Tm} → c.term x ≡ some t → c.terms y ≡ some ts → Made c TermCell x y (tms t ts)

pub bind_inv : {A C : Type 0} (o : Option A) {f : A → Option C} {z : C} → bind o f ≡ some z → (x : A) × (o ≡ some x) × (f x ≡ some z)
bind_inv none e = absurd (let z : ◌≡◌ {A = ℕ} 0 1 = cc in omega arith)
bind_inv (some x) e = (x, refl, e)

pub guard_inv : {A : Type 0} (b : Bool) {o : Option A} {z : A} → guard b o ≡ some z → (b ≡ true) × (o ≡ some z)
guard_inv true e = (refl, e)
guard_inv false e = absurd (let z : ◌≡◌ {A = ℕ} 0 1 = cc in omega arith)

pub some_inj : {A : Type 0} {x y : A} → some x ≡ some y → x ≡ y
some_inj e = cc

empty_inv : (o : Option Word) → is_empty o ≡ true → o ≡ some []
empty_inv none e = cc
empty_inv (some []) e = refl
empty_inv (some (b ∷ w)) e = cc

pub to_made : (c : Contents) (k : Kind) (x y : ℕ) {i : Item} → made c k x y ≡ some i → Made c k x y i
to_made c Byte x y e =
    let g = guard_inv (ltb x 256) e in let a = bind_inv (c.word y) g.1 in
    subst (Made c Byte x y) (some_inj a.2) (m_byte g.0 a.1)
to_made c TypeVariable x y e =
    let g = guard_inv (is_empty (c.word y)) e in let a = bind_inv (c.word x) g.1 in
    subst (Made c TypeVariable x y) (some_inj a.2) (m_tyvar (empty_inv (c.word y) g.0) a.1)
to_made c TypeNamed x y e =
    let a = bind_inv (c.word x) e in let b = bind_inv (c.types y) a.2 in
    subst (Made c TypeNamed x y) (some_inj b.2) (m_tyapp a.1 b.1)
to_made c TypeCell x y e =
    let a = bind_inv (c.typ x) e in let b = bind_inv (c.types y) a.2 in
    subst (Made c TypeCell x y) (some_inj b.2) (m_tys a.1 b.1)
to_made c Free x y e =
    let a = bind_inv (c.word x) e in let b = bind_inv (c.typ y) a.2 in
    subst (Made c Free x y) (some_inj b.2) (m_free a.1 b.1)
to_made c Bound x y e =
    let g = guard_inv (is_empty (c.word y)) e in subst (Made c Bound x y) (some_inj g.1) (m_bound (empty_inv (c.word y) g.0))
to_made c Constant x y e =
    let a = bind_inv (c.word x) e in let b = bind_inv (c.types y) a.2 in
    subst (Made c Constant x y) (some_inj b.2) (m_const a.1 b.1)
to_made c Apply x y e =
    let a = bind_inv (c.term x) e in let b = bind_inv (c.term y) a.2 in
    subst (Made c Apply x y) (some_inj b.2) (m_app a.1 b.1)
to_made c Lambda x y e =
    let a = bind_inv (c.typ x) e in let b = bind_inv (c.term y) a.2 in
    subst (Made c Lambda x y) (some_inj b.2) (m_lam a.1 b.1)
to_made c TermCell x y e =
    let a = bind_inv (c.term x) e in let b = bind_inv (c.terms y) a.2 in
    subst (Made c TermCell x y) (some_inj b.2) (m_tms a.1 b.1)

pub made_of : {c : Contents} {k : Kind} {x y : ℕ} {i : Item} → Made c k x y i → made c k x y ≡ some i
made_of (m_byte p q) = rw (p, q)
made_of (m_tyvar p q) = rw (p, q)
made_of (m_tyapp p q) = rw (p, q)
made_of (m_tys p q) = rw (p, q)
made_of (m_free p q) = rw (p, q)
made_of (m_bound p) = rw p
made_of (m_const p q) = rw (p, q)
made_of (m_app p q) = rw (p, q)
made_of (m_lam p q) = rw (p, q)
made_of (m_tms p q) = rw (p, q)

-- the same, with what cannot be found written out
pub made_at : (c : Contents) (x y : ℕ) {k : Kind} {i : Item} → Made c k x y i → made c k x y ≡ some i
made_at c x y m = made_of m
