-- Looking for a term in a list, from the first to the last.
use Rattle.std.proofs.Common.{◌≡◌, ℕ, ◌<◌, Bool, true, false, List, [], length, sym, refl, ◌∙◌, inl, inr, arith}
use mathlib.Core.Option.{Option, some}
use Rattle.hol.specs.Base.{option}
use Rattle.hol.specs.Syntax.{Tm, same_tm}
use Rattle.hol.specs.Kernel.{in_hyps}
use Rattle.hol.proofs.Tools.{decided, some_same, or_first}
use Rattle.hol.proofs.Equality.{tm_eq, tm_refl}
use Rattle.store.specs.State.{Contents, State, Keeps, Stays}
use Rattle.store.specs.Views.{ViewTerms}
use Rattle.store.proofs.Growth.{stays_on}

-- how many terms a number's list has
abbrev pub members : Contents → ℕ → ℕ
members c n = option (c.terms n) 0 length

-- a comparison of what two numbers stand for is the test on the two terms
pub same_decides : {o q : Option Tm} {b : Bool} (u v : Tm) → o ≡ some u → q ≡ some v → (b ≡ true → o ≡ q)
    → ((x : Tm) → o ≡ some x → q ≡ some x → b ≡ true) → b ≡ same_tm u v
same_decides {b = true} u v p q sound complete =
    let e : u ≡ v = some_same (sym p ∙ (sound refl ∙ q)) in
    sym (rw e (tm_refl v))
same_decides {b = false} u v p q sound complete = elim (decided (same_tm u v)) [
  | inl e ↦ complete u p (rw (tm_eq u v e) q) ∙ sym e
  | inr e ↦ sym e
]

-- u is in us if it is in those that are still ahead, of which the number `rest` is the list
pub record Seeking (s t : State) (u : Tm) (us : List Tm) (rest : ℕ) : Type 0 where
  pub stays : Stays s t
  pub ahead : List Tm
  pub ahead_is : t.contents.terms rest ≡ some ahead
  pub same : in_hyps u us ≡ in_hyps u ahead

-- none is ahead
pub ended : {s t : State} {u : Tm} {us : List Tm} {n : ℕ} (k : Seeking s t u us n) → k.ahead ≡ [] → false ≡ in_hyps u us
ended k e = sym (k.same ∙ rw e)

-- the list ahead is the term of `h` and the list of `more`; `b` says whether the term of `n` is that of `h`
module _ {s t : State} {u : Tm} {us : List Tm} {n rest h more : ℕ} {b : Bool} (k : Seeking s t u us rest)
    (sought : s.contents.term n ≡ some u) (v : ViewTerms t.contents h more k.ahead)
    (sound : b ≡ true → t.contents.term n ≡ t.contents.term h)
    (complete : (x : Tm) → t.contents.term n ≡ some x → t.contents.term h ≡ some x → b ≡ true) where
  decides : b ≡ same_tm u v.head
  decides = same_decides u v.head (k.stays.grows.keeps.term n u sought) v.head_is sound complete

  pub found : b ≡ true → true ≡ in_hyps u us
  found e = sym (k.same ∙ rw v.is (or_first _ (sym decides ∙ e)))

  pub passed : {r : State} → b ≡ false → Stays t r → Seeking s r u us more
  passed e y = record {
    stays = stays_on k.stays y;
    ahead = v.tail;
    ahead_is = y.grows.keeps.terms more v.tail v.tail_is;
    same = k.same ∙ rw (v.is, ← decides, e);
  }

-- fewer are ahead after a step
pub fewer : {c d : Contents} (n : ℕ) {h more : ℕ} {us : List Tm} → c.terms n ≡ some us → ViewTerms c h more us → Keeps c d
    → members d more < members c n
fewer n {more = more} e v k =
    rw (e, v.is, k.terms more v.tail v.tail_is) (omega arith)
