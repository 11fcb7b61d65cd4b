-- The loop of the machine that finds the type of a term: what every turn keeps, and the number of moves to come as a function of the
-- words.
use Rattle.std.proofs.Common.{◌≡◌, ℕ, ◌+◌, ◌*◌, ◌<◌, ◌≤◌, cond, eqb, List, [], ◌∷◌, Some, None, Option, sym, refl, ◌∙◌, inl, inr, arith}
use mathlib.Core.Option.{some}
use Rattle.hol.specs.Base.{option}
use Rattle.hol.specs.Syntax.{Tm}
use Rattle.hol.specs.Theory.{Theory, type_of}
use Rattle.store.specs.Measures.{nodes_tm}
use Rattle.store.specs.State.{Contents, State, Grows}
use Rattle.store.proofs.Growth.{grows_same, grows_on, grows-more}
use Rattle.typing.specs.Built.{types_built}
use Rattle.typing.specs.Typed.{Typed}
use Rattle.typing.specs.Machine.{widest, Path, root, pending, Holds, holds_root, holds_func, holds_arg, holds_body, Point, down, outcome, to_build, weight, moves, At, at_down, at_up, at_end, at_untyped, Moved, Cramped, Stuck}
use Rattle.typing.specs.declared.turn.Turn.{Turn}
use Rattle.typing.specs.declared.turn.Turn.TheVariants.{Down, Up, End}
use Rattle.waits.specs.Codes.{code}
use Rattle.waits.specs.declared.Wait.TheVariants.{Function}

-- THE MEASURE: moves to come, for the words and for the turn
abbrev pub word-moves : Contents → List ℕ → ℕ
word-moves c [] = 1
word-moves c (k ∷ []) = 1
word-moves c (k ∷ n ∷ ws) = cond (eqb k (code Function)) (2 + 3 * option (c.term n) 0 nodes_tm) 1 + word-moves c ws

abbrev pub turn-moves : Contents → List ℕ → Option Turn → ℕ
turn-moves c ws (Some (Down n)) = 3 * option (c.term n) 0 nodes_tm + word-moves c ws
turn-moves c ws (Some (Up n)) = word-moves c ws
turn-moves c ws (Some (End n)) = 0
turn-moves c ws None = 0

word_moves_are : {c : Contents} {ws ss : List ℕ} {p : Path} → Holds c ws ss p → word-moves c ws ≡ pending p
word_moves_are (holds_root e q) = rw e refl
word_moves_are {c} (holds_func {n = n} {x = x} e f h) =
    let i = word_moves_are h in
    let j : option (c.term n) 0 nodes_tm ≡ nodes_tm x = rw f in
    rw e (omega arith)
word_moves_are (holds_arg e f h) = let i = word_moves_are h in rw e (omega arith)
word_moves_are (holds_body e q f h) = let i = word_moves_are h in rw e (omega arith)

pub moves_are : {c : Contents} {ws ss : List ℕ} {turn : Option Turn} {x : Point} → At c ws ss turn x → turn-moves c ws turn ≡ moves x
moves_are {c} (at_down {n = n} {t = t} e h) =
    let i = word_moves_are h in
    let j : option (c.term n) 0 nodes_tm ≡ nodes_tm t = rw e in
    omega arith
moves_are (at_up e h) = word_moves_are h
moves_are (at_end e) = refl
moves_are at_untyped = refl

-- WHAT EVERY TURN KEEPS. From the state s and the term u the loop came to the state t, the words ws and ss, and this turn.
pub record Way (th : Theory) (s : State) (u : Tm) (t : State) (ws ss : List ℕ) (turn : Option Turn) : Type 0 where
  pub to : Point
  pub at : At t.contents ws ss turn to
  pub outcome : outcome th to ≡ type_of th u
  pub cost : ℕ
  pub grows : Grows cost s t
  pub built : cost + to_build th to ≤ types_built th [] u
  pub weight : weight to ≤ nodes_tm u

pub set_out : (th : Theory) (s : State) (u : Tm) {n : ℕ} {ws ss : List ℕ} → ws ≡ [] → ss ≡ [] → s.contents.term n ≡ some u
    → Way th s u s ws ss (Some (Down n))
set_out th s u q r e = record { to = down root u; at = at_down e (holds_root q r); outcome = refl; cost = 0; grows = grows_same; built = omega arith; weight = omega arith }

module _ {th : Theory} {s t : State} {u : Tm} {ws ss : List ℕ} {turn : Option Turn} (w : Way th s u t ws ss turn) where
  pub goes : {v : State} {vs rs : List ℕ} {next : Option Turn} → Moved th t v vs rs w.to next → Way th s u v vs rs next
  goes m = record {
    to = m.to;
    at = m.at;
    outcome = m.outcome ∙ w.outcome;
    cost = w.cost + m.cost;
    grows = grows_on w.grows m.grows;
    built = (let a = m.built in let b = w.built in omega arith);
    weight = (let a = m.weight in let b = w.weight in omega arith);
  }

  pub falls : {v : State} {vs rs : List ℕ} {next : Option Turn} → Moved th t v vs rs w.to next → turn-moves v.contents vs next < turn-moves t.contents ws turn
  falls m = let a = moves_are w.at in let b = moves_are m.at in let l = m.moves in omega arith

  pub lacks : {stack scratch places room lent rows : ℕ} → stack ≡ room → scratch ≡ lent → places ≡ rows → Stuck th stack scratch places t w.to
      → Cramped room lent rows (nodes_tm u) (widest th) s.left (types_built th [] u)
  lacks a b c (inl (inl (inl l))) = let m = w.weight in inl (inl (inl (omega arith)))
  lacks a b c (inl (inl (inr l))) = let m = w.weight in inl (inl (inr (omega arith)))
  lacks a b c (inl (inr l)) = let m = w.built in let g = w.grows.cost in inl (inr (omega arith))
  lacks a b c (inr l) = let m = w.weight in inr (omega arith)

pub arrives : {th : Theory} {s t : State} {u : Tm} {ws ss : List ℕ} {n : ℕ} → Way th s u t ws ss (Some (End n)) → Typed (types_built th [] u) s t (type_of th u) (Some n)
arrives {th} {s} {t} {u} {ws} {ss} {n} w = of w.at w.outcome w.built
  where
    of : {x : Point} → At t.contents ws ss (Some (End n)) x → outcome th x ≡ type_of th u → w.cost + to_build th x ≤ types_built th [] u → Typed (types_built th [] u) s t (type_of th u) (Some n)
    of (at_end {a = a} e) q l = record { grows = grows-more (omega arith) w.grows; finds = record { what = a; is = sym q; stands = e } }

pub ends_untyped : {th : Theory} {s t : State} {u : Tm} {ws ss : List ℕ} → Way th s u t ws ss None → Typed (types_built th [] u) s t (type_of th u) None
ends_untyped {th} {s} {t} {u} {ws} {ss} w = of w.at w.outcome w.built
  where
    of : {x : Point} → At t.contents ws ss None x → outcome th x ≡ type_of th u → w.cost + to_build th x ≤ types_built th [] u → Typed (types_built th [] u) s t (type_of th u) None
    of at_untyped q l = record { grows = grows-more (omega arith) w.grows; finds = sym q }
