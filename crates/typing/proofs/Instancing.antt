-- A type with types for its type variables: what the loops answer, and what the definitions say.
use Rattle.std.proofs.Common.{◌≡◌, ℕ, ◌+◌, ◌-◌, ◌*◌, ◌<◌, ◌≤◌, Bool, true, false, ◌&&◌, eqb, ◌⊎◌, List, [], length, take, reverse, Some, None, sym, refl, ap, ◌∙◌, inl, inr, arith, eqb→eq, length-take-le}
use mathlib.Core.Option.{some, none}
use Rattle.std.proofs.lemmas.List.{reverse-reverse}
use Rattle.hol.specs.Base.{Word}
use Rattle.hol.specs.Syntax.{Ty, tyvar, tyapp, Tys, count_tys, tyvars_ty, subst_ty, zip, TySubst}
use Rattle.hol.specs.Theory.{Theory, const_ty, ok_tys, const_at}
use Rattle.store.specs.Measures.{nodes_ty, nodes_tys}
use Rattle.store.specs.State.{Contents, State, Stays}
use Rattle.store.specs.Builds.{Made}
use Rattle.store.proofs.Growth.{grows_on, grows-more}
use Rattle.lent.specs.Piles.{Pile, pile, pile_of}
use Rattle.lent.specs.declared.stack.Stack.{Stack}
use Rattle.rebuild_types.specs.Entries.{TyEntries}
use Rattle.walk.specs.TypeVars.{Short}
use Rattle.walk.specs.Standing.{Names}
use Rattle.walk.proofs.Gathering.{stand_same_length}
use Rattle.walk.proofs.NameLists.{listed}
use Rattle.walk.proofs.Lengths.{type_length}
use Rattle.typing.specs.Typed.{Typed, Tight, nodes_of, declared, instance}

-- the words of a stack, the oldest first
stacked : (c : Contents) (ws : List ℕ) (n : ℕ) {r : ℕ} (p : Pile) {us : List Word} → pile ws n r ≡ p → Names c (reverse p.held) us → Names c (take n ws) us
stacked c ws n p e h = listed c (ap (λ q. q.held) e) h

pub stacked_in : (c : Contents) (s : Stack) {us : List Word} → Names c (reverse (pile_of s).held) us → Names c (take s.len s.words.now) us
unfolding pile_of
stacked_in c s h = stacked c s.words.now s.len (pile_of s) refl h

pub entries_stacked : (c : Contents) {ns ms : List ℕ} {es : TySubst} → reverse ms ≡ ns → TyEntries c (reverse ns) es → TyEntries c ms es
entries_stacked c {ms = ms} e h = rw (← e, reverse-reverse ms) at h

-- after a call that changes nothing
pub typed_after : {cost : ℕ} {s t u : State} {o : mathlib.Core.Option.Option Ty} {r : Rattle.std.specs.declared.option.Option.Option ℕ} → Stays s t → Typed cost t u o r → Typed cost s u o r
typed_after k h = record { grows = grows-more (omega arith) (grows_on k.grows h.grows); finds = h.finds }

-- the names of its variables had no place
pub short_names : (b : Ty) (bs : Tys) (room scratch left : ℕ) → Short room (scratch - 0) (nodes_ty b) → Tight room scratch (nodes_ty b) left (nodes_of (instance b bs))
short_names b bs room scratch left (inl l) = inl (inl (omega arith))
short_names b bs room scratch left (inr l) = inl (inr (omega arith))

-- b is the type, bs are the types for its variables; the first `count` of the words ms stand for the names of these
module _ {s t : State} (k : Stays s t) (b : Ty) (bs : Tys) (count : ℕ) (ms : List ℕ) (high : count ≤ length ms)
    (names : Names t.contents (take count ms) (tyvars_ty b [])) where
  pub counted : count ≡ length (tyvars_ty b [])
  counted = sym (length-take-le count ms high) ∙ stand_same_length names

  pub as_many : true ≡ eqb (count_tys bs) count → count_tys bs ≡ count
  as_many q = eqb→eq (count_tys bs) count (rw (← q) tt)

  is_instance : true ≡ eqb (count_tys bs) count → instance b bs ≡ some (subst_ty (zip (tyvars_ty b []) bs) b)
  is_instance q = let e : true ≡ eqb (count_tys bs) (length (tyvars_ty b [])) = rw (← counted) q in rw (← e) refl

  no_instance : false ≡ eqb (count_tys bs) count → instance b bs ≡ none
  no_instance q = let e : false ≡ eqb (count_tys bs) (length (tyvars_ty b [])) = rw (← counted) q in rw (← e) refl

  pub not_as_many : false ≡ eqb (count_tys bs) count → Typed (nodes_of (instance b bs)) s t (instance b bs) None
  not_as_many q = record { grows = grows-more (omega arith) k.grows; finds = no_instance q }

  -- the words behind them are too few for the pairs
  pub few_words : {free : ℕ} → free + count ≡ length ms → free < 2 * count → length ms < 4 * nodes_ty b
  few_words z l = let n = type_length b [] in let e = counted in omega arith

  pub made : {u : State} {n : ℕ} → true ≡ eqb (count_tys bs) count
      → Made (nodes_ty (subst_ty (zip (tyvars_ty b []) bs) b)) t u (λ d i. d.typ i ≡ some (subst_ty (zip (tyvars_ty b []) bs) b)) n
      → Typed (nodes_of (instance b bs)) s u (instance b bs) (Some n)
  made q h = let e = ap nodes_of (is_instance q) in record {
    grows = grows-more (omega arith) (grows_on k.grows h.grows);
    finds = record { what = subst_ty (zip (tyvars_ty b []) bs) b; is = is_instance q; stands = h.stands };
  }

  pub not_made : (room scratch : ℕ) → true ≡ eqb (count_tys bs) count
      → (room < 4 * nodes_ty b) ⊎ (t.left < nodes_ty (subst_ty (zip (tyvars_ty b []) bs) b)) → Tight room scratch (nodes_ty b) s.left (nodes_of (instance b bs))
  not_made room scratch q (inl l) = inl (inl l)
  not_made room scratch q (inr l) = let e = ap nodes_of (is_instance q) in let m = k.left in inr (omega arith)

-- A CONSTANT of the type a
and_true : (x y : Bool) → true ≡ y → (x && y) ≡ x
and_true true y q = sym q
and_true false y q = refl

and_false : (x y : Bool) → false ≡ y → (x && y) ≡ false
and_false true y q = sym q
and_false false y q = refl

module _ (th : Theory) (w : Word) (a : Ty) (found : const_ty th w ≡ some a) (bs : Tys) where
  pub const-instance : true ≡ ok_tys th bs → const_at th w bs ≡ instance a bs
  const-instance q = rw (found, and_true (eqb (count_tys bs) (length (tyvars_ty a []))) (ok_tys th bs) q) refl

  const-refused : false ≡ ok_tys th bs → const_at th w bs ≡ none
  const-refused q = rw (found, and_false (eqb (count_tys bs) (length (tyvars_ty a []))) (ok_tys th bs) q) refl

  pub const_none : false ≡ ok_tys th bs → {s t : State} → Stays s t → Typed (nodes_of (const_at th w bs)) s t (const_at th w bs) None
  const_none q k = record { grows = grows-more (omega arith) k.grows; finds = const-refused q }

  pub const_typed : true ≡ ok_tys th bs → {s t u : State} {r : Rattle.std.specs.declared.option.Option.Option ℕ} → Stays s t → Typed (nodes_of (instance a bs)) t u (instance a bs) r
      → Typed (nodes_of (const_at th w bs)) s u (const_at th w bs) r
  const_typed q k h = rw (const-instance q) (typed_after k h)

  one-node : (b : Ty) → 1 ≤ nodes_ty b
  one-node (tyvar v) = omega arith
  one-node (tyapp v as₁) = omega arith

  declared_is : declared th w ≡ nodes_ty a
  declared_is = ap nodes_of found

  pub const-room : (room : ℕ) → room < 1 + nodes_tys bs → room < 4 * (declared th w + nodes_tys bs)
  const-room room l = let d = declared_is in let n = one-node a in omega arith

  pub const_tight : {room scratch left left' : ℕ} → left' ≡ left → true ≡ ok_tys th bs → Tight room scratch (nodes_ty a) left' (nodes_of (instance a bs))
      → Tight room scratch (declared th w + nodes_tys bs) left (nodes_of (const_at th w bs))
  const_tight e q (inl (inl l)) = let d = declared_is in inl (inl (omega arith))
  const_tight e q (inl (inr l)) = let d = declared_is in inl (inr (omega arith))
  const_tight e q (inr l) = let d = ap nodes_of (const-instance q) in inr (omega arith)
