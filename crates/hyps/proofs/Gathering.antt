-- Terms taken from a stack and put before a list, one after the other: their images under a function, but for those left out.
use Rattle.std.proofs.Common.{◌≡◌, ℕ, ◌+◌, ◌<◌, ◌≤◌, Bool, List, [], ◌∷◌, reverse, Ok, Err, Result, refl, ap, subst, inl, inr, arith}
use mathlib.Core.List.{reverse_aux}
use mathlib.Core.Option.{some}
use Rattle.hol.specs.Syntax.{Tm}
use Rattle.hol.proofs.Tools.{decided}
use Rattle.store.specs.Measures.{nodes_tms}
use Rattle.store.specs.State.{Contents, State, Grows}
use Rattle.store.specs.Builds.{Made}
use Rattle.store.proofs.Growth.{grows_on, grows-more}
use Rattle.lent.specs.declared.NoRoom.{NoRoom}
use Rattle.hyps.specs.Sifting.{put, extra, sifted, poured, Stand, stand_none, stand_more, IsList, Lists}
use Rattle.hyps.proofs.Spreading.{stand_kept}

-- the newest number, and the term that it stands for
pub record Newest (c : Contents) (n : ℕ) (ns : List ℕ) (us : List Tm) : Type 0 where
  pub first : Tm
  pub rest : List Tm
  pub is : us ≡ first ∷ rest
  pub first_is : c.term n ≡ some first
  pub rest_are : Stand c ns rest

pub newest : {c : Contents} {n : ℕ} {ns : List ℕ} {us : List Tm} → Stand c (n ∷ ns) us → Newest c n ns us
newest (stand_more {u = u} {us = us} e h) = record { first = u; rest = us; is = refl; first_is = e; rest_are = h }

pub none_stand : {c : Contents} {us : List Tm} → Stand c [] us → us ≡ []
none_stand stand_none = refl

-- room that is short for one reason is short for one of several
pub lists_weaker : {A C : Type 0} (vs : List Tm) (s t : State) (r : Result ℕ NoRoom) → (A → C) → Lists A vs s t r → Lists C vs s t r
lists_weaker vs s t (Ok n) f h = h
lists_weaker vs s t (Err e) f h = f h

module _ (p : Tm → List Tm → Bool) (f : Tm → Tm) where
  nodes-put : (w : Tm) (vs : List Tm) → nodes_tms vs + extra p w vs ≡ nodes_tms (put p w vs)
  nodes-put w vs = elim (decided (p w vs)) [ inl e ↦ rw e (omega arith) | inr e ↦ rw e (omega arith) ]

  pub nodes-poured : (us vs : List Tm) → nodes_tms vs ≤ nodes_tms (poured p f us vs)
  nodes-poured [] vs = omega arith
  nodes-poured (u ∷ us) vs =
      let a = nodes-put (f u) vs in
      let b = nodes-poured us (put p (f u) vs) in
      omega arith

  -- what is taken from the stack, the newest first, comes to the same as the list from the last to the first
  poured-reverse : (us ds vs : List Tm) → poured p f (reverse_aux us ds) vs ≡ poured p f ds (sifted p f us vs)
  poured-reverse [] ds vs = refl
  poured-reverse (u ∷ us) ds vs = poured-reverse us (u ∷ ds) vs

  pub poured-sifted : (us vs : List Tm) → poured p f (reverse us) vs ≡ sifted p f us vs
  poured-sifted us vs = poured-reverse us [] vs

  -- From the state s, with us on the stack, to t, with the numbers ns on it, n being the list so far.
  --   ahead   the terms still on the stack
  --   list    the list so far
  --   grows   what was spent is no more than the nodes of the list so far
  --   ends    those ahead, put before the list so far, come to the goal
  pub record Gathering (s t : State) (us : List Tm) (ns : List ℕ) (n : ℕ) (goal : List Tm) : Type 0 where
    pub ahead : List Tm
    pub list : List Tm
    pub stand : Stand t.contents ns ahead
    pub list_is : t.contents.terms n ≡ some list
    pub grows : Grows (nodes_tms list) s t
    pub ends : poured p f ahead list ≡ goal
    pub fewer : nodes_tms ahead ≤ nodes_tms us

  -- all are taken
  pub ended : {s t : State} {us : List Tm} {hs : List ℕ} {n : ℕ} {goal : List Tm} → Gathering s t us hs n goal → hs ≡ []
      → Made (nodes_tms goal) s t (IsList goal) n
  ended {s} {t} {n = n} {goal = goal} k h =
      let e : k.list ≡ goal = rw (none_stand (rw h at k.stand)) at k.ends in
      subst (λ vs. Made (nodes_tms vs) s t (IsList vs) n) e (record { grows = k.grows; stands = k.list_is })

  -- m is taken from the stack
  module _ {s t : State} {us : List Tm} {hs : List ℕ} {m n : ℕ} {ns : List ℕ} {goal : List Tm} (k : Gathering s t us hs n goal)
      (pop : hs ≡ m ∷ ns) where
    pub taken : Newest t.contents m ns k.ahead
    taken = newest (rw pop at k.stand)

    pub next : {r : State} {l : ℕ} → Made (extra p (f taken.first) k.list) t r (IsList (put p (f taken.first) k.list)) l
        → Gathering s r us ns l goal
    next {r} {l} h =
        let v = taken in
        let a = nodes-put (f v.first) k.list in
        let b = ap nodes_tms v.is in
        let d = k.fewer in
        record {
          ahead = v.rest;
          list = put p (f v.first) k.list;
          stand = stand_kept h.grows.keeps v.rest_are;
          list_is = h.stands;
          grows = grows-more (omega arith) (grows_on k.grows h.grows);
          ends = rw v.is at k.ends;
          fewer = omega arith;
        }

    -- no room for it
    pub no_room : t.left < extra p (f taken.first) k.list → s.left < nodes_tms goal
    no_room h =
        let v = taken in
        let a = nodes-put (f v.first) k.list in
        let b = nodes-poured v.rest (put p (f v.first) k.list) in
        let d = k.grows.cost in
        let e = ap nodes_tms (rw v.is at k.ends) in
        omega arith
