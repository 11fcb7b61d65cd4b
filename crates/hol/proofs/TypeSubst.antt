-- Types for type variables: which variables a type has, substituting twice, and that ok types and typing are kept.
use Rattle.std.proofs.Common.{◌≡◌, ℕ, zero, suc, ◌+◌, true, false, eqb, List, [], ◌∷◌, map, length, sym, refl, ap, ◌∙◌, ap₂, inl, inr, arith, eq-eqb, eqb-true}
use mathlib.Core.Option.{Option, some}
use Rattle.hol.specs.Base.{option, nth, all, Word, same_word, among}
use Rattle.hol.specs.Syntax.{Ty, tyvar, tyapp, Tys, tnil, tcons, Tm, count_tys, TySubst, subst_ty, subst_tys, inst_tm, insert, tyvars_ty, tyvars_tys, zip}
use Rattle.hol.specs.Theory.{Theory, type_arity, const_ty, ok_ty, ok_tys, const_at}
use Rattle.hol.proofs.Tools.{◌>>=◌, decided, clash, both, and_both, some_same, none_some, bound, guarded, here, in_left, in_right}
use Rattle.hol.proofs.Equality.{in_words, words_in}
use Rattle.hol.proofs.Typing.{Has, has_fvar, has_bvar, has_const, has_app, has_lam}

-- TYPE VARIABLES. Each variable of the type is among vs.
abbrev mutual
  pub Covers : List Word → Ty → Type 0
  Covers vs (tyvar a) = among a vs ≡ true
  Covers vs (tyapp c as₁) = CoversAll vs as₁

  pub CoversAll : List Word → Tys → Type 0
  CoversAll vs tnil = Unit {0}
  CoversAll vs (tcons a as₁) = Covers vs a × CoversAll vs as₁

-- more names cover it too
module _ (vs ws : List Word) (more : (x : Word) → among x vs ≡ true → among x ws ≡ true) where
  mutual
    pub covers_more : (a : Ty) → Covers vs a → Covers ws a
    covers_more (tyvar a) h = more a h
    covers_more (tyapp c as₁) h = covers_all_more as₁ h

    pub covers_all_more : (as₁ : Tys) → CoversAll vs as₁ → CoversAll ws as₁
    covers_all_more tnil h = tt
    covers_all_more (tcons a as₁) h = (covers_more a h.0, covers_all_more as₁ h.1)

-- inserting a name keeps the names and adds it
pub insert-keeps : (w : Word) (ws : List Word) (x : Word) → among x ws ≡ true → among x (insert w ws) ≡ true
insert-keeps w ws x h =
    elim (decided (among w ws)) [ inl e ↦ rw e h | inr e ↦ rw e (words_in (in_left (w ∷ []) (in_words x ws h))) ]

pub insert_adds : (w : Word) (ws : List Word) → among w (insert w ws) ≡ true
insert_adds w ws = elim (decided (among w ws)) [ inl e ↦ rw e e | inr e ↦ rw e (words_in (in_right ws here)) ]

mutual
  pub tyvars_keep : (a : Ty) (ws : List Word) (x : Word) → among x ws ≡ true → among x (tyvars_ty a ws) ≡ true
  tyvars_keep (tyvar a) ws x h = insert-keeps a ws x h
  tyvars_keep (tyapp c as₁) ws x h = tyvars_all_keep as₁ ws x h

  pub tyvars_all_keep : (as₁ : Tys) (ws : List Word) (x : Word) → among x ws ≡ true → among x (tyvars_tys as₁ ws) ≡ true
  tyvars_all_keep tnil ws x h = h
  tyvars_all_keep (tcons a as₁) ws x h = tyvars_all_keep as₁ (tyvars_ty a ws) x (tyvars_keep a ws x h)

mutual
  pub tyvars_cover : (a : Ty) (ws : List Word) → Covers (tyvars_ty a ws) a
  tyvars_cover (tyvar a) ws = insert_adds a ws
  tyvars_cover (tyapp c as₁) ws = tyvars_cover_all as₁ ws

  pub tyvars_cover_all : (as₁ : Tys) (ws : List Word) → CoversAll (tyvars_tys as₁ ws) as₁
  tyvars_cover_all tnil ws = tt
  tyvars_cover_all (tcons a as₁) ws =
      let vs = tyvars_ty a ws in
      (covers_more vs (tyvars_tys as₁ vs) (tyvars_all_keep as₁ vs) a (tyvars_cover a ws), tyvars_cover_all as₁ vs)

-- SUBSTITUTING TWICE
pub zip_twice : (es : TySubst) (vs : List Word) (as₁ : Tys) → count_tys as₁ ≡ length vs → (x : Word) → among x vs ≡ true
    → subst_ty (zip vs (subst_tys es as₁)) (tyvar x) ≡ subst_ty es (subst_ty (zip vs as₁) (tyvar x))
zip_twice es [] as₁ n x h = clash h refl
zip_twice es (v ∷ vs) tnil n x h = let never : ⊥ = omega arith in absurd never
zip_twice es (v ∷ vs) (tcons a as₁) n x h = elim (decided (same_word x v)) [
  | inl e ↦ rw e
  | inr e ↦ rw e (zip_twice es vs as₁ (omega arith) x (rw e at h))
]

mutual
  pub subst_twice : (es : TySubst) (vs : List Word) (as₁ : Tys) → count_tys as₁ ≡ length vs → (b : Ty) → Covers vs b
      → subst_ty (zip vs (subst_tys es as₁)) b ≡ subst_ty es (subst_ty (zip vs as₁) b)
  subst_twice es vs as₁ n (tyvar x) h = zip_twice es vs as₁ n x h
  subst_twice es vs as₁ n (tyapp c bs) h = ap {B = Ty} (tyapp c) (substs_twice es vs as₁ n bs h)

  pub substs_twice : (es : TySubst) (vs : List Word) (as₁ : Tys) → count_tys as₁ ≡ length vs → (bs : Tys) → CoversAll vs bs
      → subst_tys (zip vs (subst_tys es as₁)) bs ≡ subst_tys es (subst_tys (zip vs as₁) bs)
  substs_twice es vs as₁ n tnil h = refl
  substs_twice es vs as₁ n (tcons b bs) h =
      ap₂ {C = Tys} tcons (subst_twice es vs as₁ n b h.0) (substs_twice es vs as₁ n bs h.1)

pub count_subst : (es : TySubst) (as₁ : Tys) → count_tys (subst_tys es as₁) ≡ count_tys as₁
count_subst es tnil = refl
count_subst es (tcons a as₁) = ap (λ (n : ℕ). 1 + n) (count_subst es as₁)

-- OK TYPES
abbrev pub OkSubst : Theory → TySubst → Type 0
OkSubst th es = all (λ e. ok_ty th e.ty) es ≡ true

pub find_ok : (th : Theory) (es : TySubst) (x : Word) → OkSubst th es → ok_ty th (subst_ty es (tyvar x)) ≡ true
find_ok th [] x o = refl
find_ok th (e ∷ es) x o = elim (decided (same_word x e.name)) [
  | inl s ↦ rw s (both _ _ o).0
  | inr s ↦ rw s (find_ok th es x (both _ _ o).1)
]

mutual
  pub subst_ok : (th : Theory) (es : TySubst) → OkSubst th es → (a : Ty) → ok_ty th a ≡ true → ok_ty th (subst_ty es a) ≡ true
  subst_ok th es o (tyvar x) h = find_ok th es x o
  subst_ok th es o (tyapp c as₁) h = do
    (p, q) ← both (option (type_arity th c) false (eqb (count_tys as₁))) _ h
    rw (count_subst es as₁, p) (substs_ok th es o as₁ q)

  pub substs_ok : (th : Theory) (es : TySubst) → OkSubst th es → (as₁ : Tys) → ok_tys th as₁ ≡ true
      → ok_tys th (subst_tys es as₁) ≡ true
  substs_ok th es o tnil h = refl
  substs_ok th es o (tcons a as₁) h = and_both (subst_ok th es o a (both _ _ h).0) (substs_ok th es o as₁ (both _ _ h).1)

pub zip_ok : (th : Theory) (vs : List Word) (as₁ : Tys) → ok_tys th as₁ ≡ true → OkSubst th (zip vs as₁)
zip_ok th [] as₁ h = refl
zip_ok th (v ∷ vs) tnil h = refl
zip_ok th (v ∷ vs) (tcons a as₁) h = and_both (both _ _ h).0 (zip_ok th vs as₁ (both _ _ h).1)

-- CONSTANTS at types for their type variables
pub record ConstIs (th : Theory) (c : Word) (as₁ : Tys) (a : Ty) : Type 0 where
  pub ty : Ty
  pub found : const_ty th c ≡ some ty
  pub count : count_tys as₁ ≡ length (tyvars_ty ty [])
  pub ok : ok_tys th as₁ ≡ true
  pub is : a ≡ subst_ty (zip (tyvars_ty ty []) as₁) ty

pub const_is : (th : Theory) (c : Word) (as₁ : Tys) {a : Ty} → const_at th c as₁ ≡ some a → ConstIs th c as₁ a
const_is th c as₁ e = do
  (b, f, e₁) ← bound (const_ty th c) _ e
  (p, s) ← guarded _ _ e₁
  (n, o) ← both (eqb (count_tys as₁) (length (tyvars_ty b []))) _ p
  (record { ty = b; found = f; count = eqb-true _ _ n; ok = o; is = sym (some_same s) })

pub is_const : {th : Theory} {c : Word} {as₁ : Tys} {a : Ty} → ConstIs th c as₁ a → const_at th c as₁ ≡ some a
is_const {as₁ = as₁} k = rw (k.found, eq-eqb _ _ k.count, k.ok, k.is)

pub const_subst : (th : Theory) (es : TySubst) → OkSubst th es → (c : Word) (as₁ : Tys) {a : Ty} → const_at th c as₁ ≡ some a
    → const_at th c (subst_tys es as₁) ≡ some (subst_ty es a)
const_subst th es o c as₁ {a} e = do
  k ← const_is th c as₁ e
  is_const {c = c}
      (record {
        ty = k.ty;
        found = k.found;
        count = count_subst es as₁ ∙ k.count;
        ok = substs_ok th es o as₁ k.ok;
        is = rw k.is (sym (subst_twice es (tyvars_ty k.ty []) as₁ k.count k.ty (tyvars_cover k.ty [])));
      })

-- TERMS
pub nth-map : {A C : Type 0} (f : A → C) (xs : List A) (n : ℕ) {x : A} → nth xs n ≡ some x → nth (map f xs) n ≡ some (f x)
nth-map f [] n e = none_some e
nth-map {C = C} f (x ∷ xs) zero e = ap {B = Option C} some (ap f (some_same e))
nth-map f (x ∷ xs) (suc n) e = nth-map f xs n e

pub inst_has : {th : Theory} (es : TySubst) → OkSubst th es → {g : List Ty} {t : Tm} {a : Ty} → Has th g t a
    → Has th (map (subst_ty es) g) (inst_tm es t) (subst_ty es a)
inst_has {th} es o (has_fvar {a = a} h) = has_fvar (subst_ok th es o a h)
inst_has es o (has_bvar {g = g} {n = n} e) = has_bvar (nth-map (subst_ty es) g n e)
inst_has {th} es o (has_const {c = c} {as₁ = as₁} e) = has_const (const_subst th es o c as₁ e)
inst_has es o (has_app f x) = has_app (inst_has es o f) (inst_has es o x)
inst_has {th} es o (has_lam {a = a} h t) = has_lam (subst_ok th es o a h) (inst_has es o t)
