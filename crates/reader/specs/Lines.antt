-- The line on which an S-expression begins.
use Rattle.std.specs.Prelude.{◌≡◌, ℕ, zero, suc, ◌+◌, ◌-◌, ◌<◌, ◌≤◌, cond, List, [], ◌∷◌, length, take, drop, ◌==◌, slice_index}
use Rattle.std.proofs.Math.Option.{some}
use Rattle.hol.specs.Text.{Token, opens, closes, word, gap, tokens, Sexps, nil, cons, count_sexps, sexps}
use Rattle.reader.specs.Flat.{flats}
use Rattle.reader.specs.Next.{kind_of, Begins}

-- how many brackets are open behind a token
abbrev pub deeper : Token → ℕ → ℕ
deeper opens d = d + 1
deeper closes d = d - 1
deeper (word w) d = d

-- the S-expressions behind the first n
abbrev pub behind : ℕ → Sexps → Sexps
behind zero ts = ts
behind (suc n) nil = nil
behind (suc n) (cons t ts) = behind n ts

-- a token begins at p, and from there on the text has the last S-expressions of ts, from the one with the number n, from 1
pub record Starts (t : List ℕ) (ts : Sexps) (n p : ℕ) : Type 0 where
  pub ahead : tokens gap (drop p t) ≡ flats (behind (n - 1) ts)
  pub within : p < length t
  pub begins : Begins (kind_of (slice_index t p))

-- where there are n S-expressions and n is not 0
abbrev pub StartSays : List ℕ → ℕ → ℕ → Type 0
StartSays t n p = (ts : Sexps) → sexps t ≡ some ts → 1 ≤ n → n ≤ count_sexps ts → Starts t ts n p

abbrev pub line_feeds : List ℕ → ℕ
line_feeds [] = 0
line_feeds (c ∷ cs) = cond (c == 10) 1 0 + line_feeds cs

-- one more than the line feeds before the place
abbrev pub LineSays : List ℕ → ℕ → ℕ → Type 0
LineSays t n r = (p : ℕ) × StartSays t n p × (r ≡ line_feeds (take p t) + 1)
