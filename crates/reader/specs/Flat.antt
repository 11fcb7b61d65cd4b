-- Trees written flat: the tokens that S-expressions come from, what reading them may cost, and how deep their brackets stand.
use Rattle.std.specs.Prelude.{ℕ, ◌+◌, max, List, [], ◌∷◌, ◌++◌, length}
use Rattle.hol.specs.Text.{Token, opens, closes, word, Sexp, Sexps, atom, list, nil, cons}

-- the tokens of an S-expression, and of S-expressions one after another
abbrev mutual
  pub flat : Sexp → List Token
  flat (atom w) = word w ∷ []
  flat (list ts) = opens ∷ (flats ts ++ (closes ∷ []))

  pub flats : Sexps → List Token
  flats nil = []
  flats (cons t ts) = flat t ++ flats ts

-- what a tree may cost to keep: 3 for each word and 1 for each of its bytes, nothing for brackets
abbrev mutual
  pub cost : Sexp → ℕ
  cost (atom w) = 3 + length w
  cost (list ts) = costs ts

  pub costs : Sexps → ℕ
  costs nil = 0
  costs (cons t ts) = cost t + costs ts

-- how deep brackets stand in brackets
abbrev mutual
  pub depth : Sexp → ℕ
  depth (atom w) = 0
  depth (list ts) = 1 + depths ts

  pub depths : Sexps → ℕ
  depths nil = 0
  depths (cons t ts) = max (depth t) (depths ts)
