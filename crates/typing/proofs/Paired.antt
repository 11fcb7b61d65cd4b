-- Names and types side by side, as the entries of a type substitution: one entry after another is pushed.
use Rattle.std.proofs.Common.{◌≡◌, ℕ, ◌+◌, ◌*◌, ◌<◌, ◌≤◌, List, [], ◌∷◌, ◌++◌, length, get_or, drop, reverse, refl, ap, ◌∙◌, arith}
use mathlib.Core.Option.{some}
use Rattle.std.proofs.lemmas.List.{drop_more, drop_all, append-nil, reverse-append, append_assoc}
use Rattle.hol.specs.Base.{Word}
use Rattle.hol.specs.Syntax.{Tys, tnil, tcons, count_tys, zip}
use Rattle.store.specs.State.{Contents}
use Rattle.store.specs.Views.{ViewTypes}
use Rattle.walk.specs.Standing.{Names, done, more}
use Rattle.rebuild_types.specs.Entries.{TyEntries, nothing, entry}

-- The first `at` of the names ns stand in entries, which the words `held` are, the last first. Whatever entries come behind these for
-- the other names, all are entries then.
pub record Pairing (c : Contents) (ns : List ℕ) (ws : List Word) (bs : Tys) (at rest : ℕ) (held : List ℕ) : Type 0 where
  pub names : List Word
  pub names_are : Names c (drop at ns) names
  pub types : Tys
  pub types_are : c.types rest ≡ some types
  pub many : count_tys types + at ≡ length ns
  pub long : length held ≡ 2 * at
  pub then : (ls : List ℕ) → TyEntries c ls (zip names types) → TyEntries c (reverse held ++ ls) (zip ws bs)

pub begin : {c : Contents} {ns : List ℕ} {ws : List Word} {bs : Tys} {list : ℕ} {held : List ℕ} → held ≡ [] → Names c ns ws
    → c.types list ≡ some bs → count_tys bs ≡ length ns → Pairing c ns ws bs 0 list held
begin {ws = ws} {bs = bs} z h e q = rw z (record {
  names = ws;
  names_are = h;
  types = bs;
  types_are = e;
  many = omega arith;
  long = refl;
  then = λ ls t. t;
})

count_none : (bs : Tys) → count_tys bs ≡ 0 → bs ≡ tnil
count_none tnil q = refl
count_none (tcons b bs) q = absurd (omega arith)

put_behind : (a x : ℕ) (held ls : List ℕ) → reverse (a ∷ x ∷ held) ++ ls ≡ reverse held ++ (x ∷ a ∷ ls)
put_behind a x held ls = ap (λ ks. ks ++ ls) (reverse-append (a ∷ x ∷ []) held) ∙ append_assoc (reverse held) (x ∷ a ∷ []) ls

module _ {c : Contents} {ns : List ℕ} {ws : List Word} {bs : Tys} {at rest : ℕ} {held : List ℕ} (p : Pairing c ns ws bs at rest held) where
  -- a type is left as long as a name is
  pub not_over : at < length ns → ((ds : Tys) → c.types rest ≡ some ds → ds ≡ tnil) → ⊥
  not_over l says = let m = p.many in let n = ap count_tys (says p.types p.types_are) in omega arith

  pub all_paired : length ns ≤ at → TyEntries c (reverse held) (zip ws bs)
  all_paired l = rw append-nil at (p.then [] (of (rw (drop_all at ns l) at p.names_are)))
    where
      of : {vs : List Word} → Names c [] vs → TyEntries c [] (zip vs p.types)
      of done = nothing

  -- one entry more: the name at hand, and the first type of the list
  pub next : at < length ns → {a tail : ℕ} → ((ds : Tys) → c.types rest ≡ some ds → ViewTypes c a tail ds) → {ks : List ℕ}
      → ks ≡ a ∷ get_or ns at 0 ∷ held → Pairing c ns ws bs (at + 1) tail ks
  next l {a} {tail} says {ks} b = of (rw (drop_more ns at 0 l) at p.names_are) (says p.types p.types_are) p.then
    where
      of : {us : List Word} → Names c (get_or ns at 0 ∷ drop (at + 1) ns) us → ViewTypes c a tail p.types
          → ((ls : List ℕ) → TyEntries c ls (zip us p.types) → TyEntries c (reverse held ++ ls) (zip ws bs))
          → Pairing c ns ws bs (at + 1) tail ks
      of (more {is = vs} e h) v then = record {
        names = vs;
        names_are = h;
        types = v.tail;
        types_are = v.tail_is;
        many = (let m = p.many in let q = ap count_tys v.is in omega arith);
        long = (let m = p.long in rw b (omega arith));
        then = λ ls t. rw (b, put_behind a (get_or ns at 0) held ls) (then (get_or ns at 0 ∷ a ∷ ls) (rw v.is (entry e v.head_is t)));
      }
