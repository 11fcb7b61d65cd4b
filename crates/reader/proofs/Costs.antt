-- How much a text's tokens come to, by its length: their cost, and how many brackets open.
use Rattle.std.proofs.Common.{◌≡◌, ℕ, ◌+◌, ◌*◌, ◌≤◌, Bool, true, false, cond, eqb, List, [], ◌∷◌, ◌++◌, length, refl, mul-suc, arith, length-append}
use mathlib.Core.Option.{some}
use Rattle.hol.specs.Text.{Token, opens, closes, word, Mode, gap, in_word, comment, Turn, turn, turns, at_end, tokens}
use Rattle.hol.specs.Text.{Sexp, Sexps, atom, list, nil, cons, sexps}
use Rattle.reader.specs.Flat.{flat, flats, cost, costs, depth, depths}
use Rattle.reader.specs.Next.{kind_of}
use Rattle.reader.specs.declared.kind.Kind.{Kind}
use Rattle.reader.specs.declared.kind.Kind.TheVariants.{Blank, Comment, Opening, Closing, Letter}
use Rattle.reader.proofs.Lexing.{afresh_by, is_letter, afresh-kind, in_words_kind}
use Rattle.reader.proofs.Trees.{flats_from_sexps}

-- what the tokens come to, with f for each
abbrev total : (Token → ℕ) → List Token → ℕ
total f [] = 0
total f (p ∷ ps) = f p + total f ps

total_append : (f : Token → ℕ) (ps qs : List Token) → total f (ps ++ qs) ≡ total f ps + total f qs
total_append f [] qs = omega arith
total_append f (p ∷ ps) qs = omega (arith, total_append f ps qs)

-- a byte adds at most k to what the tokens come to and what the mode holds back
module _
    (f : Token → ℕ) (held : Mode → ℕ) (k : ℕ)
    (one : (m : Mode) (c : ℕ) → total f (turns m c).out + held (turns m c).mode ≤ held m + k)
    (end : (m : Mode) → total f (at_end m) ≤ held m)
  where
    total_tokens : (m : Mode) (cs : List ℕ) → total f (tokens m cs) ≤ held m + k * length cs
    total_tokens m [] = omega (arith, end m)
    total_tokens m (c ∷ cs) =
        let t = turns m c in
        omega (arith, total_append f t.out (tokens t.mode cs), total_tokens t.mode cs, one m c, mul-suc k (length cs))

-- what holds of either turn holds of the one that a test picks
either : (P : Turn → Type 0) (b : Bool) (t u : Turn) → P t → P u → P (cond b t u)
either P true t u p q = p
either P false t u p q = q

-- COST: a word holds back what it costs, the end of the text is worth a word's last byte

abbrev token_cost : Token → ℕ
token_cost opens = 0
token_cost closes = 0
token_cost (word w) = 3 + length w

abbrev pending : Mode → ℕ
pending gap = 2
pending (in_word w) = 3 + length w
pending comment = 2

gap-cost : (k : Kind) (c : ℕ) → (let t = afresh_by k [] c in total token_cost t.out + pending t.mode ≤ 4)
gap-cost Blank c = omega arith
gap-cost Comment c = omega arith
gap-cost Opening c = omega arith
gap-cost Closing c = omega arith
gap-cost Letter c = omega arith

word-cost : (k : Kind) (w : List ℕ) (c : ℕ)
    → (let t = cond (is_letter k) (turn [] (in_word (w ++ (c ∷ [])))) (afresh_by k (word w ∷ []) c) in
    total token_cost t.out + pending t.mode ≤ pending (in_word w) + 2)
word-cost Blank w c = omega arith
word-cost Comment w c = omega arith
word-cost Opening w c = omega arith
word-cost Closing w c = omega arith
word-cost Letter w c = omega (arith, length-append w (c ∷ []))

turn-cost : (m : Mode) (c : ℕ) → total token_cost (turns m c).out + pending (turns m c).mode ≤ pending m + 2
turn-cost gap c = rw afresh-kind (gap-cost (kind_of c) c)
turn-cost (in_word w) c = rw (in_words_kind, afresh-kind) (word-cost (kind_of c) w c)
turn-cost comment c = either (λ t. total token_cost t.out + pending t.mode ≤ 4) (eqb c 10) _ _ (omega arith) (omega arith)

end-cost : (m : Mode) → total token_cost (at_end m) ≤ pending m
end-cost gap = omega arith
end-cost (in_word w) = omega arith
end-cost comment = omega arith

mutual
  cost-flat : (t : Sexp) → total token_cost (flat t) ≡ cost t
  cost-flat (atom w) = omega arith
  cost-flat (list ts) = omega (arith, total_append token_cost (flats ts) (closes ∷ []), costs-flats ts)

  costs-flats : (ts : Sexps) → total token_cost (flats ts) ≡ costs ts
  costs-flats nil = refl
  costs-flats (cons t ts) = omega (arith, total_append token_cost (flat t) (flats ts), cost-flat t, costs-flats ts)

pub costs-bound : (t : List ℕ) (ts : Sexps) → sexps t ≡ some ts → costs ts ≤ 2 + 2 * length t
costs-bound t ts e =
    let all : total token_cost (flats ts) ≤ 2 + 2 * length t =
    rw (flats_from_sexps t ts e) at (total_tokens token_cost pending 2 turn-cost end-cost gap t) in
    omega (arith, costs-flats ts)

-- DEPTH: each bracket that opens is a byte

abbrev is_open : Token → ℕ
is_open opens = 1
is_open closes = 0
is_open (word w) = 0

gap-opens : (k : Kind) (c : ℕ) → (let t = afresh_by k [] c in total is_open t.out + 0 ≤ 1)
gap-opens Blank c = omega arith
gap-opens Comment c = omega arith
gap-opens Opening c = omega arith
gap-opens Closing c = omega arith
gap-opens Letter c = omega arith

word-opens : (k : Kind) (w : List ℕ) (c : ℕ)
    → (let t = cond (is_letter k) (turn [] (in_word (w ++ (c ∷ [])))) (afresh_by k (word w ∷ []) c) in
    total is_open t.out + 0 ≤ 1)
word-opens Blank w c = omega arith
word-opens Comment w c = omega arith
word-opens Opening w c = omega arith
word-opens Closing w c = omega arith
word-opens Letter w c = omega arith

turn-opens : (m : Mode) (c : ℕ) → total is_open (turns m c).out + 0 ≤ 0 + 1
turn-opens gap c = rw afresh-kind (gap-opens (kind_of c) c)
turn-opens (in_word w) c = rw (in_words_kind, afresh-kind) (word-opens (kind_of c) w c)
turn-opens comment c = either (λ t. total is_open t.out + 0 ≤ 1) (eqb c 10) _ _ (omega arith) (omega arith)

end-opens : (m : Mode) → total is_open (at_end m) ≤ 0
end-opens gap = omega arith
end-opens (in_word w) = omega arith
end-opens comment = omega arith

mutual
  depth-flat : (t : Sexp) → depth t ≤ total is_open (flat t)
  depth-flat (atom w) = omega arith
  depth-flat (list ts) = omega (arith, total_append is_open (flats ts) (closes ∷ []), depths-flats ts)

  depths-flats : (ts : Sexps) → depths ts ≤ total is_open (flats ts)
  depths-flats nil = omega arith
  depths-flats (cons t ts) = omega (arith, total_append is_open (flat t) (flats ts), depth-flat t, depths-flats ts)

pub depths-bound : (t : List ℕ) (ts : Sexps) → sexps t ≡ some ts → depths ts ≤ length t
depths-bound t ts e =
    let all : total is_open (flats ts) ≤ 0 + 1 * length t =
    rw (flats_from_sexps t ts e) at (total_tokens is_open (λ m. 0) 1 turn-opens end-opens gap t) in
    omega (arith, depths-flats ts)
