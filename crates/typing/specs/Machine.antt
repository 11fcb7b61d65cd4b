-- The machine that finds the type of a term: where it stands, and what one move does.
use Rattle.std.specs.Prelude.{◌≡◌, ℕ, ◌+◌, ◌*◌, ◌<◌, ◌≤◌, max, ◌⊎◌, List, [], ◌∷◌, Some, None, Option}
use Rattle.std.proofs.Math.Option.{Option as Maybe, some, none}
use Rattle.hol.specs.Base.{bind, option}
use Rattle.hol.specs.Syntax.{Ty, Tm, fun}
use Rattle.hol.specs.Theory.{Theory, const_of_decl, app_ty, type_in}
use Rattle.store.specs.Measures.{nodes_ty, nodes_tm}
use Rattle.store.specs.State.{Contents, State, Grows}
use Rattle.typing.specs.Built.{types_built}
use Rattle.typing.specs.Typed.{Tight}
use Rattle.typing.specs.declared.turn.Turn.{Turn}
use Rattle.typing.specs.declared.turn.Turn.TheVariants.{Down, Up, End}
use Rattle.waits.specs.Codes.{code}
use Rattle.waits.specs.declared.Wait.TheVariants.{Function, Argument, Body}

-- how many nodes the largest type of a constant has: of those that are declared, and of = and @ (9)
abbrev pub widest : Theory → ℕ
widest [] = 9
widest (d ∷ th) = max (option (const_of_decl d) 0 (λ k. nodes_ty k.ty)) (widest th)

-- What is around the term at hand, from inside out.
--   func_of x p   the function of an application; x is the argument, to be done
--   arg_of a p    the argument of an application; a is the type of the function
--   body_of a p   the body of a λ over a variable of type a
pub data Path : Type 0 where
  root : Path
  func_of : Tm → Path → Path
  arg_of : Ty → Path → Path
  body_of : Ty → Path → Path

-- the types of the λs around, the innermost first
abbrev pub scope : Path → List Ty
scope root = []
scope (func_of x p) = scope p
scope (arg_of a p) = scope p
scope (body_of a p) = a ∷ scope p

-- the type of the whole, where the term at hand has the type o
abbrev pub plug : Theory → Path → Maybe Ty → Maybe Ty
plug th root o = o
plug th (func_of x p) o = plug th p (app_ty o (type_in th (scope p) x))
plug th (arg_of a p) o = plug th p (app_ty (some a) o)
plug th (body_of a p) o = plug th p (bind o (λ b. some (fun a b)))

-- how many nodes are still to be built for what is around
abbrev pub unbuilt : Theory → Path → ℕ
unbuilt th root = 0
unbuilt th (func_of x p) = types_built th (scope p) x + unbuilt th p
unbuilt th (arg_of a p) = unbuilt th p
unbuilt th (body_of a p) = 3 + unbuilt th p

-- what is around, in nodes
abbrev pub around : Path → ℕ
around root = 0
around (func_of x p) = 1 + (nodes_tm x + around p)
around (arg_of a p) = 1 + around p
around (body_of a p) = 1 + around p

-- how many moves are still to come for what is around, at most
abbrev pub pending : Path → ℕ
pending root = 1
pending (func_of x p) = 2 + (3 * nodes_tm x + pending p)
pending (arg_of a p) = 1 + pending p
pending (body_of a p) = 1 + pending p

-- The words of the stack, two for each step of a path: what waits, and the number that it keeps. The scope has one for each λ.
pub data Holds (c : Contents) : List ℕ → List ℕ → Path → Type 0 where
  holds_root : {ws ss : List ℕ} → ws ≡ [] → ss ≡ [] → Holds c ws ss root
  holds_func : {ws vs ss : List ℕ} {n : ℕ} {x : Tm} {p : Path} → ws ≡ code Function ∷ n ∷ vs → c.term n ≡ some x → Holds c vs ss p
      → Holds c ws ss (func_of x p)
  holds_arg : {ws vs ss : List ℕ} {n : ℕ} {a : Ty} {p : Path} → ws ≡ code Argument ∷ n ∷ vs → c.typ n ≡ some a → Holds c vs ss p
      → Holds c ws ss (arg_of a p)
  holds_body : {ws vs ss rs : List ℕ} {n : ℕ} {a : Ty} {p : Path} → ws ≡ code Body ∷ n ∷ vs → ss ≡ n ∷ rs → c.typ n ≡ some a
      → Holds c vs rs p → Holds c ws ss (body_of a p)

-- where the machine is: going down into a term, or up with its type; at the end with the type of the whole, or without
pub data Point : Type 0 where
  down : Path → Tm → Point
  up : Path → Ty → Point
  end : Ty → Point
  untyped : Point

abbrev pub outcome : Theory → Point → Maybe Ty
outcome th (down p t) = plug th p (type_in th (scope p) t)
outcome th (up p a) = plug th p (some a)
outcome th (end a) = some a
outcome th untyped = none

abbrev pub to_build : Theory → Point → ℕ
to_build th (down p t) = types_built th (scope p) t + unbuilt th p
to_build th (up p a) = unbuilt th p
to_build th (end a) = 0
to_build th untyped = 0

abbrev pub weight : Point → ℕ
weight (down p t) = nodes_tm t + around p
weight (up p a) = around p
weight (end a) = 0
weight untyped = 0

abbrev pub moves : Point → ℕ
moves (down p t) = 3 * nodes_tm t + pending p
moves (up p a) = pending p
moves (end a) = 0
moves untyped = 0

-- a turn, or none where there is no type, with a stack's words and a scope's, is this point
pub data At (c : Contents) (ws ss : List ℕ) : Option Turn → Point → Type 0 where
  at_down : {n : ℕ} {t : Tm} {p : Path} → c.term n ≡ some t → Holds c ws ss p → At c ws ss (Some (Down n)) (down p t)
  at_up : {n : ℕ} {a : Ty} {p : Path} → c.typ n ≡ some a → Holds c ws ss p → At c ws ss (Some (Up n)) (up p a)
  at_end : {n : ℕ} {a : Ty} → c.typ n ≡ some a → At c ws ss (Some (End n)) (end a)
  at_untyped : At c ws ss None untyped

-- one move from the point x came to this turn: the outcome is the same
pub record Moved (th : Theory) (s t : State) (ws ss : List ℕ) (x : Point) (turn : Option Turn) : Type 0 where
  pub to : Point
  pub at : At t.contents ws ss turn to
  pub outcome : outcome th to ≡ outcome th x
  pub cost : ℕ
  pub grows : Grows cost s t
  pub built : cost + to_build th to ≤ to_build th x
  pub weight : weight to ≤ weight x
  pub moves : moves to < moves x

-- For a term of so many nodes, where the largest type of a constant has `wide`: fewer than four words of the stack or of scratch for
-- each of these together, fewer words of the scope than the term has nodes, or fewer nodes left than `cost`.
abbrev pub Cramped : (stack scratch scope nodes wide left cost : ℕ) → Type 0
Cramped stack scratch scope nodes wide left cost = Tight stack scratch (nodes + wide) left cost ⊎ (scope < nodes)

-- what a move from x lacks where it is refused
abbrev pub Stuck : Theory → (stack scratch scope : ℕ) → State → Point → Type 0
Stuck th stack scratch scope s x = Cramped stack scratch scope (weight x) (widest th) s.left (to_build th x)
