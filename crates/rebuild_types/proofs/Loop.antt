-- The loop of the machine: what every turn keeps, and the number of moves to come as a function of the words.
use Rattle.std.proofs.Common.{◌≡◌, ℕ, ◌+◌, ◌*◌, ◌<◌, ◌≤◌, cond, eqb, ◌⊎◌, List, [], ◌∷◌, refl, ap, ◌∙◌, subst, inl, inr, arith}
use Rattle.hol.specs.Base.{option}
use Rattle.hol.specs.Syntax.{TySubst}
use Rattle.store.specs.Measures.{nodes_ty, nodes_tys}
use Rattle.store.specs.State.{Contents, State, Grows}
use Rattle.store.specs.Builds.{Made}
use Rattle.lent.specs.Piles.{Pile}
use Rattle.rebuild_types.specs.Entries.{TyEntries}
use Rattle.rebuild_types.specs.Codes.{code}
use Rattle.rebuild_types.specs.Machine.{Sort, one, many, Of, nodes, substituted, item, Item, nodes_item, Is, Path, root, pending, Holds, holds_root, holds_args, holds_head, holds_tail, Point, down, outcome, spent, weight, moves, At, at_type, at_types, at_up, at_end, Moved, Stuck}
use Rattle.rebuild_types.specs.declared.turn.Turn.{Turn}
use Rattle.rebuild_types.specs.declared.turn.Turn.TheVariants.{DownType, DownTypes, Up, End}
use Rattle.rebuild_types.specs.declared.turn.Wait.TheVariants.{Head}
use Rattle.store.proofs.Growth.{grows_on, grows-more, grows_same}
use Rattle.rebuild_types.proofs.Lookup.{entries-kept}

-- THE MEASURE: moves to come, for the words and for the turn
abbrev pub word-moves : Contents → List ℕ → ℕ
word-moves c [] = 1
word-moves c (k ∷ []) = 1
word-moves c (k ∷ n ∷ ws) = cond (eqb k (code Head)) (3 + 4 * option (c.types n) 0 nodes_tys) 1 + word-moves c ws

abbrev pub turn-moves : Contents → List ℕ → Turn → ℕ
turn-moves c ws (DownType n) = 1 + (4 * option (c.typ n) 0 nodes_ty + word-moves c ws)
turn-moves c ws (DownTypes n) = 1 + (4 * option (c.types n) 0 nodes_tys + word-moves c ws)
turn-moves c ws (Up n) = word-moves c ws
turn-moves c ws (End n) = 0

word_moves_are : {c : Contents} {s : Sort} {ws : List ℕ} {p : Path s} → Holds c s ws p → word-moves c ws ≡ pending p
word_moves_are holds_root = refl
word_moves_are (holds_args e f h) = let i = word_moves_are h in rw e (omega arith)
word_moves_are {c} (holds_head {vs = vs} {n = n} {bs = bs} e f h) =
    let i = word_moves_are h in
    let j : option (c.types n) 0 nodes_tys ≡ nodes_tys bs = rw f in
    rw e (omega arith)
word_moves_are (holds_tail e f h) = let i = word_moves_are h in rw e (omega arith)

pub moves_are : {c : Contents} {ws : List ℕ} {turn : Turn} {x : Point} → At c ws turn x → turn-moves c ws turn ≡ moves x
moves_are {c} (at_type {n = n} {a = a} e h) =
    let i = word_moves_are h in
    let j : option (c.typ n) 0 nodes_ty ≡ nodes_ty a = rw e in
    omega arith
moves_are {c} (at_types {n = n} {bs = bs} e h) =
    let i = word_moves_are h in
    let j : option (c.types n) 0 nodes_tys ≡ nodes_tys bs = rw e in
    omega arith
moves_are (at_up e h) = word_moves_are h
moves_are (at_end e) = refl

-- WHAT EVERY TURN KEEPS. From the state s and the point x the loop came to the state t, the words ws and this turn.
pub record Way (es : TySubst) (s : State) (x : Point) (entries : List ℕ) (t : State) (ws : List ℕ) (turn : Turn) : Type 0 where
  pub to : Point
  pub at : At t.contents ws turn to
  pub entered : TyEntries t.contents entries es
  pub outcome : outcome es to ≡ outcome es x
  pub grows : Grows (spent to) s t
  pub weight : weight to ≤ weight x

pub goes_on : {es : TySubst} {s t u : State} {x : Point} {entries ws vs : List ℕ} {turn next : Turn} (w : Way es s x entries t ws turn)
    → Moved es t u vs w.to next → Way es s x entries u vs next
goes_on w m = record {
  to = m.to;
  at = m.at;
  entered = entries-kept m.grows.keeps w.entered;
  outcome = m.outcome ∙ w.outcome;
  grows = grows-more m.spent (grows_on w.grows m.grows);
  weight = (let a = m.weight in let b = w.weight in omega arith);
}

pub falls : {es : TySubst} {s t u : State} {x : Point} {entries ws vs : List ℕ} {turn next : Turn} (w : Way es s x entries t ws turn)
    → Moved es t u vs w.to next → turn-moves u.contents vs next < turn-moves t.contents ws turn
falls w m = let a = moves_are w.at in let b = moves_are m.at in let l = m.moves in omega arith

-- the end
nodes_of : (k : Sort) (y : Of k) → nodes_item (item k y) ≡ nodes k y
nodes_of one y = refl
nodes_of many y = refl

pub arrives : {es : TySubst} {s t : State} {entries ws : List ℕ} (k : Sort) (y : Of k) {n : ℕ} → Way es s (down root y) entries t ws (End n)
    → Made (nodes k (substituted es k y)) s t (Is (item k (substituted es k y))) n
arrives {es} {s} {t} {ws = ws} k y {n} w = go w.at w.outcome w.grows
  where
    go : {to : Point} → At t.contents ws (End n) to → outcome es to ≡ item k (substituted es k y) → Grows (spent to) s t
        → Made (nodes k (substituted es k y)) s t (Is (item k (substituted es k y))) n
    go (at_end {s = j} {x = z} e) q g =
        let a = nodes_of j z in
        let b = nodes_of k (substituted es k y) in
        let l = ap nodes_item q in
        record { grows = grows-more (omega arith) g; stands = subst (λ (i : Item). Is i t.contents n) q e }

-- THE INVARIANT, for a loop that began with the stack p and is at the stack q
pub record Running (s : State) (entries : List ℕ) (start : Turn) (p : Pile) (t : State) (q : Pile) (turn : Turn) : Type 0 where
  pub capacity : q.capacity ≡ p.capacity
  pub ways : (es : TySubst) (k : Sort) (y : Of k) → TyEntries s.contents entries es → At s.contents [] start (down root y)
      → Way es s (down root y) entries t q.held turn

pub set_out : (s : State) (entries : List ℕ) (start : Turn) (p : Pile) → p.held ≡ [] → Running s entries start p s p start
set_out s entries start p h = record {
  capacity = refl;
  ways = λ es k y e at. record { to = down root y; at = rw h at; entered = e; outcome = refl; grows = grows_same; weight = omega arith };
}

-- one turn, which is `now`
module _ {s t : State} {entries : List ℕ} {start turn now : Turn} {p : Pile} (q : Pile) (k : Running s entries start p t q turn)
    (is : turn ≡ now) where
  module _ {u : State} {next : Turn} (r : Pile)
      (moved : (es : TySubst) (x : Point) → TyEntries t.contents entries es → At t.contents q.held now x → Moved es t u r.held x next) where
    one-turn : {es : TySubst} {x : Point} (w : Way es s x entries t q.held turn) → Moved es t u r.held w.to next
    one-turn {es} w = moved es w.to w.entered (rw is at w.at)

    pub again : r.capacity ≡ q.capacity → Running s entries start p u r next
    again c = record {
      capacity = c ∙ k.capacity;
      ways = λ es o y e at. let v = k.ways es o y e at in goes_on v (one-turn v);
    }

    pub less : (es : TySubst) (o : Sort) (y : Of o) → TyEntries s.contents entries es → At s.contents [] start (down root y)
        → turn-moves u.contents r.held next < turn-moves t.contents q.held turn
    less es o y e at = let v = k.ways es o y e at in falls v (one-turn v)

  -- refused on the way
  pub refused : ((es : TySubst) (x : Point) → TyEntries t.contents entries es → At t.contents q.held now x → Stuck es q.capacity t x)
      → (es : TySubst) (o : Sort) (y : Of o) → TyEntries s.contents entries es → At s.contents [] start (down root y)
      → (p.capacity < 4 * nodes o y) ⊎ (s.left < nodes o (substituted es o y))
  refused stuck es o y e at =
      let v = k.ways es o y e at in
      elim (stuck es v.to v.entered (rw is at v.at)) [
        | inl l ↦ let m = v.weight in let c = k.capacity in inl (omega arith)
        | inr l ↦
            let g = v.grows.cost in
            let b = nodes_of o (substituted es o y) in
            let i = ap nodes_item v.outcome in
            inr (omega arith)
      ]
