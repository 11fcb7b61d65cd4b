-- Looking for a free variable in the terms of a list, from the first to the last.
use Rattle.std.proofs.Common.{◌≡◌, ℕ, ◌≤◌, true, false, not, List, [], sym, refl, ◌∙◌, arith}
use mathlib.Core.Option.{some}
use Rattle.hol.specs.Base.{Word, any}
use Rattle.hol.specs.Syntax.{Ty, Tm, free_in}
use Rattle.hol.proofs.Tools.{or_first}
use Rattle.store.specs.Measures.{nodes_tm, nodes_tms}
use Rattle.store.specs.State.{State, Stays}
use Rattle.store.specs.Views.{ViewTerms}
use Rattle.store.proofs.Growth.{stays_same, stays_on}

-- the variable is free in one of us if it is in one of those that are still ahead, of which the number `rest` is the list
pub record Looking (s t : State) (y : Word) (b : Ty) (us : List Tm) (rest : ℕ) : Type 0 where
  pub stays : Stays s t
  pub ahead : List Tm
  pub ahead_is : t.contents.terms rest ≡ some ahead
  pub same : any (free_in y b) us ≡ any (free_in y b) ahead
  pub nodes : nodes_tms ahead ≤ nodes_tms us

pub start : {s : State} (y : Word) (b : Ty) {us : List Tm} {n : ℕ} → s.contents.terms n ≡ some us → Looking s s y b us n
start y b {us} e = record { stays = stays_same; ahead = us; ahead_is = e; same = refl; nodes = omega arith }

pub ended : {s t : State} {y : Word} {b : Ty} {us : List Tm} {n : ℕ} (k : Looking s t y b us n) → k.ahead ≡ [] → not (any (free_in y b) us) ≡ true
ended k e = rw k.same (rw e refl)

-- the list ahead is the term of `h` and the list of `more`
module _ {s t : State} {y : Word} {b : Ty} {us : List Tm} {rest h more : ℕ} (k : Looking s t y b us rest) (v : ViewTerms t.contents h more k.ahead) where
  shorter : nodes_tms v.tail ≤ nodes_tms us
  shorter = omega (arith, rw v.is at k.nodes)

  pub found : true ≡ free_in y b v.head → not (any (free_in y b) us) ≡ false
  found e = rw k.same (rw v.is (rw (or_first (any (free_in y b) v.tail) (sym e)) refl))

  pub next : {r : State} → false ≡ free_in y b v.head → Stays t r → Looking s r y b us more
  next e z =
      record {
        stays = stays_on k.stays z;
        ahead = v.tail;
        ahead_is = z.grows.keeps.terms _ _ v.tail_is;
        same = k.same ∙ rw v.is (rw (sym e) refl);
        nodes = shorter;
      }

  pub smaller : nodes_tm v.head ≤ nodes_tms us
  smaller = omega (arith, rw v.is at k.nodes)
