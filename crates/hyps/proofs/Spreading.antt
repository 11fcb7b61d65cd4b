-- The terms of a list pushed onto a stack, the first first.
use Rattle.std.proofs.Common.{◌≡◌, ℕ, suc, ◌+◌, ◌<◌, List, [], ◌∷◌, reverse, length, sym, refl, ap, subst, arith}
use mathlib.Core.List.{reverse_aux}
use mathlib.Core.Option.{some}
use Rattle.hol.specs.Syntax.{Tm}
use Rattle.store.specs.State.{Contents, Keeps}
use Rattle.store.specs.Views.{ViewTerms}
use Rattle.lent.specs.Piles.{Pile}
use Rattle.hyps.specs.Sifting.{Stand, stand_none, stand_more}

pub stand_length : {c : Contents} {ns : List ℕ} {us : List Tm} → Stand c ns us → length ns ≡ length us
stand_length stand_none = refl
stand_length (stand_more e h) = ap suc (stand_length h)

pub stand_kept : {c d : Contents} {ns : List ℕ} {us : List Tm} → Keeps c d → Stand c ns us → Stand d ns us
stand_kept k stand_none = stand_none
stand_kept k (stand_more {n = n} {u = u} e h) = stand_more (k.term n u e) (stand_kept k h)

-- of us, those ahead are the list of the number `rest`, and the others lie on the stack p
pub record Spreading (c : Contents) (us : List Tm) (p : Pile) (rest : ℕ) : Type 0 where
  pub ahead : List Tm
  pub ahead_is : c.terms rest ≡ some ahead
  pub behind : List Tm
  pub stand : Stand c p.held behind
  pub ends : reverse_aux ahead behind ≡ reverse us
  pub count : length behind + length ahead ≡ length us

pub start : {c : Contents} {us : List Tm} {p : Pile} {n : ℕ} → p.held ≡ [] → c.terms n ≡ some us → Spreading c us p n
start {c} {us} h e =
    record { ahead = us; ahead_is = e; behind = []; stand = subst (λ ns. Stand c ns []) (sym h) stand_none; ends = refl; count = omega arith }

module _ {c : Contents} {us : List Tm} {p : Pile} {rest : ℕ} (k : Spreading c us p rest) where
  -- all are on the stack
  pub ended : k.ahead ≡ [] → Stand c p.held (reverse us)
  ended e = let q : k.behind ≡ reverse us = rw e at k.ends in subst (λ vs. Stand c p.held vs) q k.stand

  pub next : {q : Pile} {n more : ℕ} → ViewTerms c n more k.ahead → q.held ≡ n ∷ p.held → Spreading c us q more
  next {n = n} v o =
      let e = v.is in
      let l = ap length e in
      let m = k.count in
      record {
        ahead = v.tail;
        ahead_is = v.tail_is;
        behind = v.head ∷ k.behind;
        stand = subst (λ ns. Stand c ns (v.head ∷ k.behind)) (sym o) (stand_more v.head_is k.stand);
        ends = rw e at k.ends;
        count = omega arith;
      }

  -- no place for one more
  pub full : {n more : ℕ} → ViewTerms c n more k.ahead → p.capacity < length p.held + 1 → p.capacity < length us
  full v h =
      let l = ap length v.is in
      let d = stand_length k.stand in
      let s = k.count in
      omega arith
