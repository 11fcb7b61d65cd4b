-- The machine that reads a list of types up to the bracket that closes it: where it stands, and what one move does.
use Rattle.std.specs.Prelude.{◌≡◌, ℕ, ◌+◌, ◌*◌, ◌<◌, ◌≤◌, List, [], ◌∷◌, ◌++◌, length, Some, None, Option, Result}
use Rattle.std.proofs.Math.Option.{Option as Maybe, some, none}
use Rattle.std.specs.Option.{IfSome}
use Rattle.hol.specs.Base.{Word, bind}
use Rattle.hol.specs.Syntax.{Ty, tyapp, Tys, tcons}
use Rattle.hol.specs.Text.{Token, closes, Sexps, read_types}
use Rattle.reader.specs.Flat.{flats, costs}
use Rattle.store.specs.State.{Contents, State, Grows}
use Rattle.lent.specs.Answers.{Answers}
use Rattle.lent.specs.declared.NoRoom.{NoRoom}
use Rattle.parser_types.specs.declared.turn.Turn.{Turn}
use Rattle.parser_types.specs.declared.turn.Turn.TheVariants.{Next, Close, End}
use Rattle.parser_types.specs.declared.turn.Mark.TheVariants.{Bracket, Argument}
use Rattle.parser_types.specs.Reads.{Short}
use Rattle.parser_types.specs.Marks.{code}

-- The brackets around the place at hand, from inside out: of each its name, the types that were read before it in the bracket around
-- (the newest first), and the trees behind it there.
pub data Path : Type 0 where
  root : Path
  inside : Word → List Ty → Sexps → Path → Path

-- types that were read, the newest first, before others
abbrev pub before : List Ty → Tys → Tys
before [] bs = bs
before (a ∷ as₁) bs = before as₁ (tcons a bs)

-- the whole list, once the bracket at hand has been read, or not
abbrev pub finish : Path → Maybe Tys → Maybe Tys
finish root o = o
finish (inside c as₁ vs p) o =
    finish p (bind o (λ bs. bind (read_types vs) (λ ds. some (before as₁ (tcons (tyapp c bs) ds)))))

-- the tokens behind the bracket at hand; qs are those behind the whole list
abbrev pub after : Path → List Token → List Token
after root qs = qs
after (inside c as₁ vs p) qs = flats vs ++ (closes ∷ after p qs)

-- what is still to be paid for the brackets around: trees to be read, and nodes for what was read
abbrev pub owed : Path → ℕ
owed root = 0
owed (inside c as₁ vs p) = 2 + (costs vs + (length as₁ + owed p))

-- where the machine is: reading trees behind types that were read; collecting these before a list; at its end
pub data Point : Type 0 where
  reading : Path → List Ty → Sexps → Point
  closing : Path → List Ty → Tys → Point
  ended : Tys → Point

-- what it will have read in the end
abbrev pub outcome : Point → Maybe Tys
outcome (reading p as₁ us) = finish p (bind (read_types us) (λ bs. some (before as₁ bs)))
outcome (closing p as₁ bs) = finish p (some (before as₁ bs))
outcome (ended bs) = some bs

-- what is still to be paid
abbrev pub weight : Point → ℕ
weight (reading p as₁ us) = costs us + (length as₁ + owed p)
weight (closing p as₁ bs) = length as₁ + owed p
weight (ended bs) = 0

-- the words of the stack, two for each type and each name: its kind, and its number
pub data Holds (c : Contents) : List ℕ → Path → List Ty → Type 0 where
  holds_root : Holds c [] root []
  holds_type : {ws vs : List ℕ} {n : ℕ} {p : Path} {a : Ty} {as₁ : List Ty} → ws ≡ code Argument ∷ n ∷ vs → c.typ n ≡ some a
      → Holds c vs p as₁ → Holds c ws p (a ∷ as₁)
  holds_name : {ws vs : List ℕ} {n : ℕ} {p : Path} {w : Word} {as₁ : List Ty} {us : Sexps} → ws ≡ code Bracket ∷ n ∷ vs
      → c.word n ≡ some w → Holds c vs p as₁ → Holds c ws (inside w as₁ us p) []

-- a turn, a stack's words and the tokens ahead are this point
pub data At (c : Contents) (ws : List ℕ) (ps qs : List Token) : Turn → Point → Type 0 where
  at_next : {p : Path} {as₁ : List Ty} {us : Sexps} → Holds c ws p as₁ → ps ≡ flats us ++ (closes ∷ after p qs)
      → At c ws ps qs Next (reading p as₁ us)
  at_close : {n : ℕ} {p : Path} {as₁ : List Ty} {bs : Tys} → c.types n ≡ some bs → Holds c ws p as₁ → ps ≡ after p qs
      → At c ws ps qs (Close n) (closing p as₁ bs)
  at_end : {n : ℕ} {bs : Tys} → c.types n ≡ some bs → ps ≡ qs → At c ws ps qs (End n) (ended bs)

-- one move from the point x came to this turn: the outcome is the same
pub record Moved (s t : State) (ws : List ℕ) (ps qs : List Token) (x : Point) (turn : Turn) : Type 0 where
  pub to : Point
  pub at : At t.contents ws ps qs turn to
  pub outcome : outcome to ≡ outcome x
  pub cost : ℕ
  pub grows : Grows cost s t
  pub weight : cost + weight to ≤ weight x

-- from the point x no list of types can be read
pub record Stuck (s t : State) (x : Point) : Type 0 where
  pub outcome : outcome x ≡ none
  pub grows : Grows (weight x) s t

abbrev pub MovedOn : State → State → List ℕ → List Token → List Token → Point → Option Turn → Type 0
MovedOn s t ws ps qs x (Some turn) = Moved s t ws ps qs x turn
MovedOn s t ws ps qs x None = Stuck s t x

-- a move from x with a stack of so many words, by its answer
abbrev pub Moves : (capacity : ℕ) → State → State → List ℕ → List Token → List Token → Point → Result Turn NoRoom → Type 0
Moves capacity s t ws ps qs x r = Answers (Short capacity (weight x) s) (Moved s t ws ps qs x) r

-- the same of a move that reads a token
abbrev pub Advances : (capacity : ℕ) → State → State → List ℕ → List Token → List Token → Point → Result (Option Turn) NoRoom → Type 0
Advances capacity s t ws ps qs x r = Answers (Short capacity (weight x) s) (MovedOn s t ws ps qs x) r

-- how many moves are still to come, at most, by what lies on the stack and how many tokens are ahead
abbrev pub load : Turn → List ℕ → List Token → ℕ
load Next ws ps = 1 + (length ws + 4 * length ps)
load (Close n) ws ps = 2 + (length ws + 4 * length ps)
load (End n) ws ps = 0

-- one move less
abbrev pub Falls : Turn → List ℕ → List Token → List ℕ → List Token → Result Turn NoRoom → Type 0
Falls turn ws ps vs qs r = Answers (Unit {0}) (λ next. load next vs qs < load turn ws ps) r

abbrev pub FallsOn : Turn → List ℕ → List Token → List ℕ → List Token → Result (Option Turn) NoRoom → Type 0
FallsOn turn ws ps vs qs r = Answers (Unit {0}) (λ o. IfSome o (λ next. load next vs qs < load turn ws ps)) r
