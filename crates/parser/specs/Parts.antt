-- What the parts of a bracket are read as.
use Rattle.std.specs.Prelude.{◌≡◌, ℕ, suc, ◌+◌, Bool, true, false, List, ◌∷◌, ◌++◌, length, Some, None, codes, Option, Result, ◌≢◌}
use Rattle.std.proofs.Math.Option.{some, none}
use Rattle.hol.specs.Base.{Word}
use Rattle.hol.specs.Syntax.{Ty, Tm}
use Rattle.hol.specs.Text.{Token, closes, word, Sexp, Sexps, atom, list, cons, read_type, read_term}
use Rattle.reader.specs.Flat.{flats, cost, costs}
use Rattle.store.specs.State.{State, Grows}
use Rattle.lent.specs.Answers.{Answers}
use Rattle.lent.specs.declared.NoRoom.{NoRoom}
use Rattle.parser_types.specs.Reads.{Short}
use Rattle.parser.specs.declared.turn.Form.{Form}
use Rattle.parser.specs.declared.turn.Form.TheVariants.{Free, Constant, Application, Lambda}
use Rattle.parser.specs.declared.turn.Binder.{Binder}
use Rattle.parser.specs.declared.turn.Opened.{Opened}
use Rattle.parser.specs.declared.turn.Opened.TheVariants.{Whole, Function, Under}

-- the bracket that closes is the first token of ps; behind it the stream is rs
abbrev pub CloseSays : List Token → List Token → Bool → Type 0
CloseSays ps rs true = ps ≡ closes ∷ rs
CloseSays ps rs false = (qs : List Token) → ps ≢ closes ∷ qs

-- the first word of a bracket
abbrev pub sign : Form → Word
sign Free = codes ":"
sign Constant = codes "!"
sign Application = codes "$"
sign Lambda = codes "\\"

abbrev pub FormOf : Word → Option Form → Type 0
FormOf w None = (f : Form) → w ≢ sign f
FormOf w (Some f) = w ≡ sign f

abbrev pub FormSays : List Token → List Token → Option Form → Type 0
FormSays ps rs None = (f : Form) (qs : List Token) → ps ≢ word (sign f) ∷ qs
FormSays ps rs (Some f) = ps ≡ word (sign f) ∷ rs

-- of the trees ts the name and the type of a λ's variable were read
pub record Bound (s t : State) (ts : Sexps) (qs rs : List Token) (b : Binder) : Type 0 where
  pub name : Word
  pub tree : Sexp
  pub ty : Ty
  pub rest : Sexps
  pub is : ts ≡ cons (atom name) (cons tree rest)
  pub reads : read_type tree ≡ some ty
  pub name_is : t.contents.word b.name ≡ some name
  pub ty_is : t.contents.typ b.ty ≡ some ty
  pub behind : rs ≡ flats rest ++ (closes ∷ qs)
  pub grows : Grows (length name + cost tree) s t

-- they are not a name and a type, and more
pub record Unbound (s t : State) (ts : Sexps) : Type 0 where
  pub no_binder : (x : Word) (v : Sexp) (vs : Sexps) → ts ≡ cons (atom x) (cons v vs) → read_type v ≡ none
  pub grows : Grows (costs ts) s t

abbrev pub Binding : State → State → Sexps → List Token → List Token → Option Binder → Type 0
Binding s t ts qs rs (Some b) = Bound s t ts qs rs b
Binding s t ts qs rs None = Unbound s t ts

abbrev pub BinderSays : ℕ → State → State → Sexps → List Token → List Token → Result (Option Binder) NoRoom → Type 0
BinderSays room s t ts qs rs r = Answers (Short room (costs ts) s) (Binding s t ts qs rs) r

-- WHAT WAS READ OF A BRACKET around the trees ts

pub record WholeRead (s t : State) (ts : Sexps) (qs rs : List Token) (m : ℕ) : Type 0 where
  pub term : Tm
  pub reads : (n : ℕ) (xs : List Word) → read_term (suc n) xs (list ts) ≡ some term
  pub stands : t.contents.term m ≡ some term
  pub behind : rs ≡ qs
  pub grows : Grows (costs ts) s t

pub record FunctionNext (s t : State) (ts : Sexps) (qs rs : List Token) : Type 0 where
  pub rest : Sexps
  pub is : ts ≡ cons (atom (sign Application)) rest
  pub behind : rs ≡ flats rest ++ (closes ∷ qs)
  pub same : t ≡ s

pub record BodyNext (s t : State) (ts : Sexps) (qs rs : List Token) (b : Binder) : Type 0 where
  pub inside : Sexps
  pub is : ts ≡ cons (atom (sign Lambda)) inside
  pub bound : Bound s t inside qs rs b

pub record NoTerm (s t : State) (ts : Sexps) : Type 0 where
  pub reads : (n : ℕ) (xs : List Word) → read_term (suc n) xs (list ts) ≡ none
  pub grows : Grows (costs ts) s t

abbrev pub Opening : State → State → Sexps → List Token → List Token → Option Opened → Type 0
Opening s t ts qs rs (Some (Whole m)) = WholeRead s t ts qs rs m
Opening s t ts qs rs (Some Function) = FunctionNext s t ts qs rs
Opening s t ts qs rs (Some (Under b)) = BodyNext s t ts qs rs b
Opening s t ts qs rs None = NoTerm s t ts

abbrev pub OpenSays : ℕ → State → State → Sexps → List Token → List Token → Result (Option Opened) NoRoom → Type 0
OpenSays room s t ts qs rs r = Answers (Short room (costs ts) s) (Opening s t ts qs rs) r
