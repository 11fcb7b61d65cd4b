-- A term put before a list, or left out: what it costs, and when there is no room for it.
use Rattle.std.proofs.Common.{◌≡◌, ℕ, ◌<◌, ◌≤◌, Bool, true, false, List, arith}
use mathlib.Core.Option.{some}
use Rattle.hol.specs.Syntax.{Tm}
use Rattle.store.specs.Measures.{nodes_tm}
use Rattle.store.specs.State.{State, Grows, Stays, back}
use Rattle.store.specs.Builds.{Made, IsTerms}
use Rattle.store.proofs.Growth.{grows_on, grows-more, released}
use Rattle.hyps.specs.Sifting.{put, extra, IsList}

module _ (p : Tm → List Tm → Bool) (w : Tm) (vs : List Tm) where
  -- left out: the list is as it was
  pub left_out : {s t : State} {l : ℕ} → p w vs ≡ true → Stays s t → s.contents.terms l ≡ some vs
      → Made (extra p w vs) s t (IsList (put p w vs)) l
  left_out {l = l} e y is = rw e (record { grows = y.grows; stands = y.grows.keeps.terms l vs is })

  -- left out, once all that was built since the mark m is given back
  pub let_go : {m n : ℕ} {s t r : State} {l : ℕ} → p w vs ≡ true → m ≡ s.count → s.at m ≡ s.contents → s.left_at m ≡ s.left
      → Grows n s t → (m ≤ t.count → r ≡ back m t) → s.contents.terms l ≡ some vs
      → Made (extra p w vs) s r (IsList (put p w vs)) l
  let_go {m} {s = s} {t = t} {l = l} e count contents left g f is =
      let le : m ≤ t.count = (let h = g.count in omega arith) in
      rw (f le) (left_out {l = l} e (released count contents left g) is)

  -- m nodes were spent on the term; one more puts it before the list
  pub put_on : {m : ℕ} {s t r : State} {n l k : ℕ} → p w vs ≡ false → m ≤ nodes_tm w → Grows m s t → t.contents.term n ≡ some w
      → t.contents.terms l ≡ some vs → Made 1 t r (IsTerms n l) k → Made (extra p w vs) s r (IsList (put p w vs)) k
  put_on {m} {n = n} {l = l} e le g is list h =
      let k = h.grows.keeps in
      rw e (record {
        grows = grows-more (omega arith) (grows_on g h.grows);
        stands = h.stands w vs (k.term n w is) (k.terms l vs list);
      })

  pub no_place : {m : ℕ} {s t : State} → p w vs ≡ false → m ≤ nodes_tm w → Grows m s t → t.left < 1 → s.left < extra p w vs
  no_place {m} {s} {t} e le g h = let c = g.cost in rw e (omega arith)
