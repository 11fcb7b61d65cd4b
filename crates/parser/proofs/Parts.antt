-- A name and a type; a free variable; a constant.
use Rattle.std.proofs.Common.{◌≡◌, ℕ, ◌+◌, ◌≤◌, false, List, ◌∷◌, ◌++◌, length, sym, refl, ap, ◌∙◌, inl, inr, append_assoc, arith}
use mathlib.Core.Option.{Option, some, none}
use Rattle.hol.specs.Base.{Word, bind}
use Rattle.hol.specs.Syntax.{Tm, fvar, const}
use Rattle.hol.specs.Text.{Token, closes, Sexp, Sexps, atom, list, nil, cons, read_type, read_types, read_free, read_const, read_lam}
use Rattle.reader.specs.Flat.{flat, flats, cost, costs}
use Rattle.reader.proofs.Streams.{inside-word, inside-closes}
use Rattle.store.specs.State.{State, Grows}
use Rattle.store.specs.Builds.{Made, Full, IsFree, IsConst}
use Rattle.store.proofs.Growth.{grows_on, grows-more}
use Rattle.parser_types.specs.Reads.{Short, Read, Unread, Named, NameShort}
use Rattle.parser.specs.Parts.{Bound, Unbound}
use Rattle.parser.specs.declared.turn.Binder.{Binder}

module _ (ts : Sexps) (qs : List Token) {ps : List Token} (e : ps ≡ flats ts ++ (closes ∷ qs)) where
  pub name-short : {room : ℕ} {s : State} → NameShort s ps → Short room (costs ts) s
  name-short h =
      let (us, i, j) = inside-word ts qs h.behind h.name (sym e ∙ h.ahead) in
      let l = ap costs i in
      let k = h.short in
      inl (omega arith)

  -- behind a name
  module _ {s t : State} {rs : List Token} {n : ℕ} (b : Named (λ w. false) s t ps rs n) where
    pub behind-name : (us : Sexps) × (ts ≡ cons (atom b.name) us) × (rs ≡ flats us ++ (closes ∷ qs))
    behind-name = inside-word ts qs rs b.name (sym e ∙ b.ahead)

    named_cost : length b.name + costs behind-name.0 ≤ costs ts
    named_cost = let l = ap costs behind-name.1 in omega arith

    -- A TYPE BEHIND IT: read as r says, or nothing is there
    pub type_short : {room : ℕ} → ((v : Sexp) (ss : List Token) → rs ≡ flat v ++ ss → Short room (cost v) t)
        → ((ss : List Token) → rs ≡ closes ∷ ss → ⊥) → Short room (costs ts) s
    type_short {room} h empty = go behind-name.0 behind-name.2 named_cost
      where
        go : (us : Sexps) → rs ≡ flats us ++ (closes ∷ qs) → length b.name + costs us ≤ costs ts → Short room (costs ts) s
        go nil i l = absurd (empty qs i)
        go (cons v vs) i l = elim (h v _ (i ∙ append_assoc (flat v) (flats vs) (closes ∷ qs))) [
          | inl k ↦ (let m = b.made.grows.cost in inl (omega arith))
          | inr k ↦ inr (omega arith)
        ]

    pub type_unread : {u : State} → ((v : Sexp) (ss : List Token) → rs ≡ flat v ++ ss → Unread (read_type v) (cost v) t u)
        → ((ss : List Token) → rs ≡ closes ∷ ss → Grows 0 t u) → Unbound s u ts
    type_unread {u} h empty = go behind-name.0 behind-name.1 behind-name.2 named_cost
      where
        go : (us : Sexps) → ts ≡ cons (atom b.name) us → rs ≡ flats us ++ (closes ∷ qs) → length b.name + costs us ≤ costs ts
            → Unbound s u ts
        go nil y i l = record {
          no_binder = λ x v vs z. absurd (let a : ◌≡◌ {A = ℕ} 0 1 = cc in omega arith);
          grows = grows-more (omega arith) (grows_on b.made.grows (empty qs i));
        }
        go (cons v vs) y i l =
            let a = h v _ (i ∙ append_assoc (flat v) (flats vs) (closes ∷ qs)) in
            record {
              no_binder = λ x v₁ vs₁ z. let j : v₁ ≡ v = cc in ap read_type j ∙ a.reads;
              grows = grows-more (omega arith) (grows_on b.made.grows a.grows);
            }

    pub type_read : {u : State} {m : ℕ} {ss : List Token}
        → ((v : Sexp) (os : List Token) → rs ≡ flat v ++ os → Read (λ c. c.typ) (read_type v) (cost v) t u os ss m)
        → ((os : List Token) → rs ≡ closes ∷ os → ⊥) → Bound s u ts qs ss (record { name = n; ty = m })
    type_read {u} {m} {ss} h empty = go behind-name.0 behind-name.1 behind-name.2
      where
        go : (us : Sexps) → ts ≡ cons (atom b.name) us → rs ≡ flats us ++ (closes ∷ qs)
            → Bound s u ts qs ss (record { name = n; ty = m })
        go nil y i = absurd (empty qs i)
        go (cons v vs) y i =
            let a = h v _ (i ∙ append_assoc (flat v) (flats vs) (closes ∷ qs)) in
            record {
              name = b.name;
              tree = v;
              ty = a.value;
              rest = vs;
              is = y;
              reads = a.reads;
              name_is = a.grows.keeps.word n b.name b.made.stands;
              ty_is = a.stands;
              behind = a.behind;
              grows = grows_on b.made.grows a.grows;
            }

    -- TYPES BEHIND IT: a constant
    reads_constant : read_const ts ≡ bind (read_types behind-name.0) (λ as₁. some (const b.name as₁))
    reads_constant = ap read_const behind-name.1

    pub types-short : {room : ℕ} → Short room (costs behind-name.0) t → Short room (costs ts) s
    types-short (inl h) = let l = named_cost in let m = b.made.grows.cost in inl (omega arith)
    types-short (inr h) = let l = named_cost in inr (omega arith)

    pub types_unread : {u : State} → Unread (read_types behind-name.0) (costs behind-name.0) t u → Unread (read_const ts) (costs ts) s u
    types_unread a = record {
      reads = reads_constant ∙ rw a.reads;
      grows = grows-more named_cost (grows_on b.made.grows a.grows);
    }

    module _ {u : State} {m : ℕ} {ss : List Token}
        (a : Read (λ c. c.types) (read_types behind-name.0) (costs behind-name.0) t u qs ss m) where
      pub constant_read : {v : State} {k : ℕ} → Made 1 u v (IsConst n m) k → Read (λ c. c.term) (read_const ts) (costs ts) s v qs ss k
      constant_read d =
          let g = d.grows.keeps in
          let l = ap costs behind-name.1 in
          record {
            value = const b.name a.value;
            reads = reads_constant ∙ rw a.reads;
            stands =
                d.stands b.name a.value (g.word n b.name (a.grows.keeps.word n b.name b.made.stands))
                (g.types m a.value a.stands);
            grows = grows-more (omega arith) (grows_on (grows_on b.made.grows a.grows) d.grows);
            behind = a.behind;
          }

      pub constant_short : {room : ℕ} {v : State} → Full 1 u v → Short room (costs ts) s
      constant_short f =
          let l = ap costs behind-name.1 in
          let x = b.made.grows.cost in
          let y = a.grows.cost in
          let z = f.short in
          inl (omega arith)

-- no name and type, no λ
pub no_lambda : (go : List Word → Sexp → Option Tm) (xs : List Word) (ts : Sexps)
    → ((x : Word) (v : Sexp) (vs : Sexps) → ts ≡ cons (atom x) (cons v vs) → read_type v ≡ none) → read_lam go xs ts ≡ none
no_lambda go xs nil h = refl
no_lambda go xs (cons t nil) h = refl
no_lambda go xs (cons t (cons v nil)) h = refl
no_lambda go xs (cons (atom x) (cons v (cons w nil))) h = rw (h x v (cons w nil) refl)
no_lambda go xs (cons (list us) (cons v (cons w nil))) h = refl
no_lambda go xs (cons t (cons v (cons w (cons y ys)))) h = refl

-- A FREE VARIABLE: its name and type, then the bracket that closes
module _ {s t : State} {ts : Sexps} {qs rs : List Token} {b : Binder} (d : Bound s t ts qs rs b) where
  pub free_read : {u : State} {ss : List Token} {k : ℕ} → rs ≡ closes ∷ ss → Made 1 t u (IsFree b.name b.ty) k
      → Read (λ c. c.term) (read_free ts) (costs ts) s u qs ss k
  free_read {ss = ss} i m =
      let (j, k) = inside-closes d.rest qs ss (sym d.behind ∙ i) in
      let g = m.grows.keeps in
      record {
        value = fvar d.name d.ty;
        reads = ap read_free (d.is ∙ ap (λ us. cons (atom d.name) (cons d.tree us)) j) ∙ rw d.reads;
        stands = m.stands d.name d.ty (g.word b.name d.name d.name_is) (g.typ b.ty d.ty d.ty_is);
        grows = grows-more (let l = ap costs d.is in omega arith) (grows_on d.grows m.grows);
        behind = k;
      }
