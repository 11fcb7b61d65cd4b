-- Lists that are built by putting one term after the other before a list, some left out.
use Rattle.std.specs.Prelude.{◌≡◌, ℕ, ◌+◌, ◌<◌, Bool, cond, List, [], ◌∷◌, reverse, length, Ok, Err, Result}
use Rattle.std.proofs.Math.Option.{some}
use Rattle.hol.specs.Syntax.{Tm}
use Rattle.store.specs.Measures.{nodes_tm, nodes_tms}
use Rattle.store.specs.State.{Contents, State}
use Rattle.store.specs.Builds.{Made}
use Rattle.lent.specs.Answers.{Answers}
use Rattle.lent.specs.Piles.{Pile}
use Rattle.lent.specs.declared.NoRoom.{NoRoom}

-- u before vs, unless p leaves it out
abbrev pub put : (Tm → List Tm → Bool) → Tm → List Tm → List Tm
put p u vs = cond (p u vs) vs (u ∷ vs)

-- by how many nodes that is more than vs
abbrev pub extra : (Tm → List Tm → Bool) → Tm → List Tm → ℕ
extra p u vs = cond (p u vs) 0 (1 + nodes_tm u)

-- the images under f of us before vs, put from the last to the first
abbrev pub sifted : (Tm → List Tm → Bool) → (Tm → Tm) → List Tm → List Tm → List Tm
sifted p f [] vs = vs
sifted p f (u ∷ us) vs = put p (f u) (sifted p f us vs)

-- the same, put from the first to the last
abbrev pub poured : (Tm → List Tm → Bool) → (Tm → Tm) → List Tm → List Tm → List Tm
poured p f [] vs = vs
poured p f (u ∷ us) vs = poured p f us (put p (f u) vs)

-- numbers that stand for terms
pub data Stand (c : Contents) : List ℕ → List Tm → Type 0 where
  stand_none : Stand c [] []
  stand_more : {n : ℕ} {ns : List ℕ} {u : Tm} {us : List Tm} → c.term n ≡ some u → Stand c ns us → Stand c (n ∷ ns) (u ∷ us)

-- the terms us were pushed onto an empty stack; or there was no place for all of them
abbrev pub Spreads : Contents → List Tm → Pile → Pile → Result (Unit {0}) NoRoom → Type 0
Spreads c us p q (Ok x) = Stand c q.held (reverse us)
Spreads c us p q (Err e) = p.capacity < length us

abbrev pub IsTerm : Tm → Contents → ℕ → Type 0
IsTerm u c n = c.term n ≡ some u

abbrev pub IsList : List Tm → Contents → ℕ → Type 0
IsList vs c n = c.terms n ≡ some vs

-- the list vs was built, at the cost of no more than its nodes; or it was not, for want of room
abbrev pub Lists : Type 0 → List Tm → State → State → Result ℕ NoRoom → Type 0
Lists short vs s t r = Answers short (Made (nodes_tms vs) s t (IsList vs)) r
