-- The machine that builds a term anew: where it stands, and what one move does.
use Rattle.std.specs.Prelude.{◌≡◌, ℕ, ◌+◌, ◌*◌, ◌<◌, ◌≤◌, ◌⊎◌, List, [], ◌∷◌, Result}
use Rattle.std.proofs.Math.Option.{some}
use Rattle.hol.specs.Syntax.{Ty, Tm, app, lam}
use Rattle.store.specs.Measures.{nodes_ty, nodes_tm}
use Rattle.store.specs.State.{Contents, State, Grows}
use Rattle.lent.specs.Answers.{Answers}
use Rattle.lent.specs.declared.NoRoom.{NoRoom}
use Rattle.rebuild.specs.Rebuilt.{Change, rebuilt}
use Rattle.rebuild.specs.declared.turn.Turn.{Turn}
use Rattle.rebuild.specs.declared.turn.Turn.TheVariants.{Down, Up, End}
use Rattle.waits.specs.Codes.{code}
use Rattle.waits.specs.declared.Wait.TheVariants.{Function, Argument, Body}

-- What is around the part at hand, from inside out.
--   function_of x p   the function of an application; x is its argument, to be done
--   argument_of f p   the argument of an application; f is its function, done
--   body_of a p       the body of a λ; a is its type, done
pub data Path : Type 0 where
  root : Path
  function_of : Tm → Path → Path
  argument_of : Tm → Path → Path
  body_of : Ty → Path → Path

-- how many λs are around, if d are around the whole
abbrev pub deep : ℕ → Path → ℕ
deep d root = d
deep d (function_of x p) = deep d p
deep d (argument_of f p) = deep d p
deep d (body_of a p) = deep d p + 1

-- the whole, once the part at hand is t and all that is to be done is done
abbrev pub plug : Change → ℕ → Path → Tm → Tm
plug F d root t = t
plug F d (function_of x p) t = plug F d p (app t (rebuilt F (deep d p) x))
plug F d (argument_of f p) t = plug F d p (app f t)
plug F d (body_of a p) t = plug F d p (lam a t)

-- how many nodes the parts around have that are done
abbrev pub finished : Path → ℕ
finished root = 0
finished (function_of x p) = finished p
finished (argument_of f p) = nodes_tm f + finished p
finished (body_of a p) = nodes_ty a + finished p

-- how many nodes are around that are to be built
abbrev pub waiting : Path → ℕ
waiting root = 0
waiting (function_of x p) = 1 + (nodes_tm x + waiting p)
waiting (argument_of f p) = 1 + waiting p
waiting (body_of a p) = 1 + waiting p

-- how many moves are still to come for what is around
abbrev pub pending : Path → ℕ
pending root = 1
pending (function_of x p) = 3 + (4 * nodes_tm x + pending p)
pending (argument_of f p) = 1 + pending p
pending (body_of a p) = 1 + pending p

-- The words of the stack, two for each step of a path: what waits, and the number that it keeps.
pub data Holds (c : Contents) : List ℕ → Path → Type 0 where
  holds_root : Holds c [] root
  holds_function : {ws vs : List ℕ} {n : ℕ} {x : Tm} {p : Path} → ws ≡ code Function ∷ n ∷ vs → c.term n ≡ some x → Holds c vs p
      → Holds c ws (function_of x p)
  holds_argument : {ws vs : List ℕ} {n : ℕ} {f : Tm} {p : Path} → ws ≡ code Argument ∷ n ∷ vs → c.term n ≡ some f → Holds c vs p
      → Holds c ws (argument_of f p)
  holds_body : {ws vs : List ℕ} {n : ℕ} {a : Ty} {p : Path} → ws ≡ code Body ∷ n ∷ vs → c.typ n ≡ some a → Holds c vs p
      → Holds c ws (body_of a p)

-- where the machine is: going down into u, which is to be done, or up with u, which is done
pub data Point : Type 0 where
  down : Path → Tm → Point
  up : Path → Tm → Point
  end : Tm → Point

-- what it will have made in the end
abbrev pub outcome : Change → ℕ → Point → Tm
outcome F d (down p u) = plug F d p (rebuilt F (deep d p) u)
outcome F d (up p u) = plug F d p u
outcome F d (end u) = u

-- how many nodes it may have spent
abbrev pub spent : Point → ℕ
spent (down p u) = finished p
spent (up p u) = nodes_tm u + finished p
spent (end u) = nodes_tm u

-- how many nodes of the old term it still has to do with
abbrev pub weight : Point → ℕ
weight (down p u) = nodes_tm u + waiting p
weight (up p u) = waiting p
weight (end u) = 0

-- how many moves are still to come, at most
abbrev pub moves : Point → ℕ
moves (down p u) = 1 + (4 * nodes_tm u + pending p)
moves (up p u) = pending p
moves (end u) = 0

-- a turn and a stack's words are this point, with d λs around the whole
pub data At (d : ℕ) (c : Contents) (ws : List ℕ) : Turn → Point → Type 0 where
  at_down : {n k : ℕ} {u : Tm} {p : Path} → c.term n ≡ some u → Holds c ws p → k ≡ deep d p → At d c ws (Down n k) (down p u)
  at_up : {n k : ℕ} {u : Tm} {p : Path} → c.term n ≡ some u → Holds c ws p → k ≡ deep d p → At d c ws (Up n k) (up p u)
  at_end : {n : ℕ} {u : Tm} → c.term n ≡ some u → At d c ws (End n) (end u)

-- one move from the point x came to this turn: the outcome is the same
pub record Moved (F : Change) (d : ℕ) (s t : State) (ws : List ℕ) (x : Point) (turn : Turn) : Type 0 where
  pub to : Point
  pub at : At d t.contents ws turn to
  pub outcome : outcome F d to ≡ outcome F d x
  pub cost : ℕ
  pub grows : Grows cost s t
  pub spent : spent x + cost ≤ spent to
  pub weight : weight to ≤ weight x
  pub moves : moves to < moves x

-- a move from x is refused only for want of words or of nodes
abbrev pub Stuck : Change → ℕ → (capacity : ℕ) → State → Point → Type 0
Stuck F d capacity s x = (capacity < 4 * weight x) ⊎ (s.left + spent x < nodes_tm (outcome F d x))

-- a move from x with a stack of so many words, by its answer
abbrev pub Moves : Change → ℕ → (capacity : ℕ) → State → State → List ℕ → Point → Result Turn NoRoom → Type 0
Moves F d capacity s t ws x r = Answers (Stuck F d capacity s x) (Moved F d s t ws x) r
