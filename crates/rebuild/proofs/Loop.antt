-- The loop of the machine: what every turn keeps, and the number of moves to come as a function of the words.
use Rattle.std.proofs.Common.{◌≡◌, ℕ, ◌+◌, ◌*◌, ◌^◌, ◌<◌, ◌≤◌, cond, eqb, ◌⊎◌, List, [], ◌∷◌, refl, ap, ◌∙◌, inl, inr, arith}
use mathlib.Core.Option.{some}
use Rattle.hol.specs.Base.{option}
use Rattle.hol.specs.Syntax.{Tm}
use Rattle.store.specs.Measures.{nodes_tm}
use Rattle.store.specs.State.{Contents, Keeps, State, Grows}
use Rattle.store.specs.Builds.{Made}
use Rattle.lent.specs.Piles.{Pile}
use Rattle.store.proofs.Growth.{grows_on, grows-more, grows_same}
use Rattle.waits.specs.Codes.{code}
use Rattle.rebuild.specs.Rebuilt.{Change, rebuilt}
use Rattle.rebuild.specs.Machine.{Path, root, pending, Holds, holds_root, holds_function, holds_argument, holds_body, Point, down, outcome, spent, weight, moves, At, at_down, at_up, at_end, Moved, Stuck}
use Rattle.rebuild.specs.declared.turn.Turn.{Turn}
use Rattle.rebuild.specs.declared.turn.Turn.TheVariants.{Down, Up, End}
use Rattle.waits.specs.declared.Wait.TheVariants.{Function}

-- THE MEASURE: moves to come, for the words and for the turn
abbrev pub word-moves : Contents → List ℕ → ℕ
word-moves c [] = 1
word-moves c (k ∷ []) = 1
word-moves c (k ∷ n ∷ ws) = cond (eqb k (code Function)) (3 + 4 * option (c.term n) 0 nodes_tm) 1 + word-moves c ws

abbrev pub turn-moves : Contents → List ℕ → Turn → ℕ
turn-moves c ws (Down n k) = 1 + (4 * option (c.term n) 0 nodes_tm + word-moves c ws)
turn-moves c ws (Up n k) = word-moves c ws
turn-moves c ws (End n) = 0

word_moves_are : {c : Contents} {ws : List ℕ} {p : Path} → Holds c ws p → word-moves c ws ≡ pending p
word_moves_are holds_root = refl
word_moves_are {c} (holds_function {n = n} {x = x} e f h) =
    let i = word_moves_are h in
    let j : option (c.term n) 0 nodes_tm ≡ nodes_tm x = rw f in
    rw e (omega arith)
word_moves_are (holds_argument e f h) = let i = word_moves_are h in rw e (omega arith)
word_moves_are (holds_body e f h) = let i = word_moves_are h in rw e (omega arith)

moves_are : {d : ℕ} {c : Contents} {ws : List ℕ} {turn : Turn} {x : Point} → At d c ws turn x → turn-moves c ws turn ≡ moves x
moves_are {c = c} (at_down {n = n} {u = u} e h q) =
    let i = word_moves_are h in
    let j : option (c.term n) 0 nodes_tm ≡ nodes_tm u = rw e in
    omega arith
moves_are (at_up e h q) = word_moves_are h
moves_are (at_end e) = refl

-- WHAT EVERY TURN KEEPS. From the state s and the term u the loop came to the state t, the words ws and this turn.
pub record Way (Does : Contents → Type 0) (F : Change) (d : ℕ) (s : State) (u : Tm) (t : State) (ws : List ℕ) (turn : Turn) : Type 0 where
  pub to : Point
  pub at : At d t.contents ws turn to
  pub does : Does t.contents
  pub outcome : outcome F d to ≡ rebuilt F d u
  pub grows : Grows (spent to) s t
  pub weight : weight to ≤ nodes_tm u

module _ {Does : Contents → Type 0} {F : Change} {d : ℕ} {s t u : State} {x : Tm} {ws vs : List ℕ} {turn next : Turn}
    (w : Way Does F d s x t ws turn) (m : Moved F d t u vs w.to next) where
  goes_on : ((c e : Contents) → Keeps c e → Does c → Does e) → Way Does F d s x u vs next
  goes_on stays = record {
    to = m.to;
    at = m.at;
    does = stays t.contents u.contents m.grows.keeps w.does;
    outcome = m.outcome ∙ w.outcome;
    grows = grows-more m.spent (grows_on w.grows m.grows);
    weight = (let a = m.weight in let b = w.weight in omega arith);
  }

  falls : turn-moves u.contents vs next < turn-moves t.contents ws turn
  falls = let a = moves_are w.at in let b = moves_are m.at in let l = m.moves in omega arith

-- the end
pub arrives : {Does : Contents → Type 0} {F : Change} {d : ℕ} {s t : State} {x : Tm} {ws : List ℕ} {n : ℕ}
    → Way Does F d s x t ws (End n) → Made (nodes_tm (rebuilt F d x)) s t (λ c k. c.term k ≡ some (rebuilt F d x)) n
arrives {F = F} {d = d} {s = s} {t = t} {x = x} {ws = ws} {n = n} w = go w.at w.outcome w.grows
  where
    go : {to : Point} → At d t.contents ws (End n) to → outcome F d to ≡ rebuilt F d x → Grows (spent to) s t
        → Made (nodes_tm (rebuilt F d x)) s t (λ c k. c.term k ≡ some (rebuilt F d x)) n
    go (at_end e) q g = let l = ap nodes_tm q in record { grows = grows-more (omega arith) g; stands = e ∙ ap some q }

-- THE INVARIANT, for a loop that began with the number n in the state s and the stack p, and is at the stack q
pub record Running (Does : Contents → Change → Type 0) (s : State) (n d : ℕ) (p : Pile) (t : State) (q : Pile) (turn : Turn) : Type 0 where
  pub capacity : q.capacity ≡ p.capacity
  pub ways : (F : Change) (x : Tm) → Does s.contents F → s.contents.term n ≡ some x → Way (λ c. Does c F) F d s x t q.held turn

pub set_out : (Does : Contents → Change → Type 0) (s : State) (n d : ℕ) (p : Pile) → p.held ≡ [] → Running Does s n d p s p (Down n d)
set_out Does s n d p h = record {
  capacity = refl;
  ways = λ F x e i. record {
    to = down root x;
    at = rw h (at_down i holds_root refl);
    does = e;
    outcome = refl;
    grows = grows_same;
    weight = omega arith;
  };
}

-- one turn, which is `now`
module _ {Does : Contents → Change → Type 0} {s t : State} {n d : ℕ} {turn now : Turn} {p : Pile} (q : Pile)
    (k : Running Does s n d p t q turn) (shallow : d < 2 ^ 63) (is : turn ≡ now) where
  module _ {u : State} {next : Turn} (r : Pile)
      (moved : (F : Change) (b : ℕ) (x : Point) → Does t.contents F → At b t.contents q.held now x → b < 2 ^ 63
      → Moved F b t u r.held x next) where
    one-turn : (F : Change) {x : Tm} (w : Way (λ c. Does c F) F d s x t q.held turn) → Moved F d t u r.held w.to next
    one-turn F w = moved F d w.to w.does (rw is at w.at) shallow

    pub again : ((c e : Contents) (F : Change) → Keeps c e → Does c F → Does e F) → r.capacity ≡ q.capacity → Running Does s n d p u r next
    again stays c = record {
      capacity = c ∙ k.capacity;
      ways = λ F x e i. let v = k.ways F x e i in goes_on v (one-turn F v) (λ c e. stays c e F);
    }

    pub less : (F : Change) (x : Tm) → Does s.contents F → s.contents.term n ≡ some x
        → turn-moves u.contents r.held next < turn-moves t.contents q.held turn
    less F x e i = let v = k.ways F x e i in falls v (one-turn F v)

  -- refused on the way
  pub refused : ((F : Change) (b : ℕ) (x : Point) → Does t.contents F → At b t.contents q.held now x → b < 2 ^ 63 → Stuck F b q.capacity t x)
      → (F : Change) (x : Tm) → Does s.contents F → s.contents.term n ≡ some x
      → (p.capacity < 4 * nodes_tm x) ⊎ (s.left < nodes_tm (rebuilt F d x))
  refused stuck F x e i =
      let w = k.ways F x e i in
      elim (stuck F d w.to w.does (rw is at w.at) shallow) [
        | inl l ↦ let m = w.weight in let c = k.capacity in inl (omega arith)
        | inr l ↦ let g = w.grows.cost in let o = ap nodes_tm w.outcome in inr (omega arith)
      ]
