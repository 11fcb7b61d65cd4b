-- The machine that reads a term: where it stands, and what one move does.
use Rattle.std.specs.Prelude.{◌≡◌, ℕ, ◌+◌, ◌*◌, ◌<◌, ◌≤◌, ◌⊎◌, List, [], ◌∷◌, ◌++◌, length, Some, None, Option, Result}
use Rattle.std.proofs.Math.Option.{Option as Maybe, some, none}
use Rattle.hol.specs.Base.{Word, bind}
use Rattle.hol.specs.Syntax.{Ty, Tm, app, lam}
use Rattle.hol.specs.Text.{Token, closes, Sexp, Sexps, nil, cons, one_of, read_term}
use Rattle.reader.specs.Flat.{flat, flats, cost, costs, depth, depths}
use Rattle.store.specs.State.{Contents, State, Grows}
use Rattle.lent.specs.Answers.{Answers}
use Rattle.lent.specs.declared.NoRoom.{NoRoom}
use Rattle.parser_types.specs.Reads.{Reading}
use Rattle.parser.specs.declared.turn.Turn.{Turn}
use Rattle.parser.specs.declared.turn.Turn.TheVariants.{Down, Up, End}
use Rattle.waits.specs.declared.Wait.TheVariants.{Function, Argument, Body}
use Rattle.waits.specs.Codes.{code}

-- What is around the term at hand, from inside out, each with the trees behind it in its bracket.
--   func n vs p      the function of an application; n is the fuel for the argument
--   arg f vs p       the argument of f
--   body x a vs p    the body of a λ over x of type a
pub data Path : Type 0 where
  root : Path
  func : ℕ → Sexps → Path → Path
  arg : Tm → Sexps → Path → Path
  body : Word → Ty → Sexps → Path → Path

-- the names of the λs around, the innermost first
abbrev pub scope : Path → List Word
scope root = []
scope (func n vs p) = scope p
scope (arg f vs p) = scope p
scope (body x a vs p) = x ∷ scope p

-- o, if no tree is left
abbrev pub alone : Sexps → Maybe Tm → Maybe Tm
alone nil o = o
alone (cons v vs) o = none

-- f applied to what is read of the one tree that is left
abbrev pub applied : ℕ → List Word → Sexps → Tm → Maybe Tm
applied n xs vs f = one_of vs (λ v. bind (read_term n xs v) (λ x. some (app f x)))

-- the whole term, once the term at hand has been read, or not
abbrev pub finish : Path → Maybe Tm → Maybe Tm
finish root o = o
finish (func n vs p) o = finish p (bind o (applied n (scope p) vs))
finish (arg f vs p) o = finish p (alone vs (bind o (λ x. some (app f x))))
finish (body x a vs p) o = finish p (alone vs (bind o (λ b. some (lam a b))))

-- the tokens behind the term at hand; qs are those behind the whole
abbrev pub after : Path → List Token → List Token
after root qs = qs
after (func n vs p) qs = flats vs ++ (closes ∷ after p qs)
after (arg f vs p) qs = flats vs ++ (closes ∷ after p qs)
after (body x a vs p) qs = flats vs ++ (closes ∷ after p qs)

-- what is still to be paid for what is around
abbrev pub owed : Path → ℕ
owed root = 0
owed (func n vs p) = 1 + (costs vs + owed p)
owed (arg f vs p) = 1 + (costs vs + owed p)
owed (body x a vs p) = 1 + (costs vs + owed p)

-- where the machine is: before a tree, to be read with fuel n; before a bracket that closes, where a tree should be; up with a term
pub data Point : Type 0 where
  down : Path → ℕ → Sexp → Point
  lost : Point
  up : Path → Tm → Point
  ended : Tm → Point

-- what it will have read in the end
abbrev pub outcome : Point → Maybe Tm
outcome (down p n u) = finish p (read_term n (scope p) u)
outcome lost = none
outcome (up p t) = finish p (some t)
outcome (ended t) = some t

-- what is still to be paid
abbrev pub weight : Point → ℕ
weight (down p n u) = cost u + owed p
weight lost = 0
weight (up p t) = owed p
weight (ended t) = 0

-- The words of the stack, two for each step of a path: what waits, and the number that it keeps. The names of the λs lie on another.
pub data Holds (c : Contents) : List ℕ → List ℕ → Path → Type 0 where
  holds_root : Holds c [] [] root
  holds_func : {ws ws₁ zs : List ℕ} {m n : ℕ} {vs : Sexps} {p : Path} → ws ≡ code Function ∷ m ∷ ws₁ → depths vs ≤ n
      → Holds c ws₁ zs p → Holds c ws zs (func n vs p)
  holds_arg : {ws ws₁ zs : List ℕ} {m : ℕ} {f : Tm} {vs : Sexps} {p : Path} → ws ≡ code Argument ∷ m ∷ ws₁ → c.term m ≡ some f
      → Holds c ws₁ zs p → Holds c ws zs (arg f vs p)
  holds_body : {ws ws₁ zs zs₁ : List ℕ} {m k : ℕ} {x : Word} {a : Ty} {vs : Sexps} {p : Path} → ws ≡ code Body ∷ m ∷ ws₁
      → zs ≡ k ∷ zs₁ → c.typ m ≡ some a → c.word k ≡ some x → Holds c ws₁ zs₁ p → Holds c ws zs (body x a vs p)

-- a turn, the words of both stacks and the tokens ahead are this point
pub data At (c : Contents) (ws zs : List ℕ) (ps qs : List Token) : Turn → Point → Type 0 where
  at_down : {p : Path} {n : ℕ} {u : Sexp} → Holds c ws zs p → ps ≡ flat u ++ after p qs → depth u ≤ n
      → At c ws zs ps qs Down (down p n u)
  at_lost : {rs : List Token} → ps ≡ closes ∷ rs → At c ws zs ps qs Down lost
  at_up : {m : ℕ} {p : Path} {t : Tm} → c.term m ≡ some t → Holds c ws zs p → ps ≡ after p qs → At c ws zs ps qs (Up m) (up p t)
  at_end : {m : ℕ} {t : Tm} → c.term m ≡ some t → ps ≡ qs → At c ws zs ps qs (End m) (ended t)

-- how many moves are still to come, at most, by what lies on the stack and how many tokens are ahead
abbrev pub load : Option Turn → List ℕ → List Token → ℕ
load (Some Down) ws ps = 1 + (length ws + 4 * length ps)
load (Some (Up n)) ws ps = 2 + (length ws + 4 * length ps)
load (Some (End n)) ws ps = 0
load None ws ps = 0

-- one move from the point x, before which there were `before` moves at most, came to this turn: the outcome is the same
pub record Moved (before : ℕ) (s t : State) (ws zs : List ℕ) (ps qs : List Token) (x : Point) (turn : Turn) : Type 0 where
  pub to : Point
  pub at : At t.contents ws zs ps qs turn to
  pub outcome : outcome to ≡ outcome x
  pub cost : ℕ
  pub grows : Grows cost s t
  pub weight : cost + weight to ≤ weight x
  pub falls : load (Some turn) ws ps < before

-- from the point x no term can be read
pub record Stuck (s t : State) (x : Point) : Type 0 where
  pub outcome : outcome x ≡ none
  pub grows : Grows (weight x) s t

-- a move came to a turn, or found that no term can be read
pub data MovedOn (before : ℕ) (s t : State) (ws zs : List ℕ) (ps qs : List Token) (x : Point) : Option Turn → Type 0 where
  moved : {turn : Turn} → Moved before s t ws zs ps qs x turn → MovedOn before s t ws zs ps qs x (Some turn)
  no_more : Stuck s t x → MovedOn before s t ws zs ps qs x None

-- refused only for want of nodes, of words, or of words for names
abbrev pub Short : ℕ → ℕ → ℕ → State → Type 0
Short room names cost s = (s.left < cost) ⊎ ((room < 4 * cost) ⊎ (names < cost))

-- a move from x with stacks of so many words, by its answer
abbrev pub Moves : (before room names : ℕ) → State → State → List ℕ → List ℕ → List Token → List Token → Point → Result (Option Turn) NoRoom → Type 0
Moves before room names s t ws zs ps qs x r = Answers (Short room names (weight x) s) (MovedOn before s t ws zs ps qs x) r

-- a reading of a whole term
abbrev pub TermSays : (room names cost : ℕ) → State → State → Maybe Tm → List Token → List Token → Result (Option ℕ) NoRoom → Type 0
TermSays room names cost s t o qs ps r = Answers (Short room names cost s) (Reading (λ c. c.term) o cost s t qs ps) r
