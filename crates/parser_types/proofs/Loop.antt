-- The loop that reads a list of types: from one turn to the next.
use Rattle.std.proofs.Common.{◌≡◌, ℕ, ◌+◌, ◌≤◌, List, [], ◌∷◌, ◌++◌, refl, ◌∙◌, arith}
use mathlib.Core.Option.{Option, some, none}
use Rattle.hol.specs.Base.{bind}
use Rattle.hol.specs.Syntax.{Tys}
use Rattle.hol.specs.Text.{Token, closes, Sexps, read_types}
use Rattle.reader.specs.Flat.{flats, costs}
use Rattle.store.specs.State.{State, Grows}
use Rattle.store.proofs.Growth.{grows_same, grows_on}
use Rattle.parser_types.specs.Machine.{root, Point, reading, outcome, weight, holds_root, At, at_next, Moved}
use Rattle.parser_types.specs.declared.turn.Turn.{Turn}
use Rattle.parser_types.specs.declared.turn.Turn.TheVariants.{Next}

-- On the way from s₀, where the trees us were ahead, then the bracket that closes, then qs: what comes out is what is read of us, and
-- what was paid and what is still to be paid is no more than they cost.
pub record Way (s₀ s : State) (ws : List ℕ) (ps qs : List Token) (us : Sexps) (turn : Turn) : Type 0 where
  pub point : Point
  pub at : At s.contents ws ps qs turn point
  pub ends : outcome point ≡ read_types us
  pub cost : ℕ
  pub grows : Grows cost s₀ s
  pub weight : cost + weight point ≤ costs us

-- nothing was read before
all-ahead : (o : Option Tys) → bind o (λ bs. some bs) ≡ o
all-ahead none = refl
all-ahead (some bs) = refl

pub start : {s : State} {ws : List ℕ} {ps qs : List Token} {us : Sexps} → ws ≡ [] → ps ≡ flats us ++ (closes ∷ qs)
    → Way s s ws ps qs us Next
start {us = us} h e = record {
  point = reading root [] us;
  at = at_next (rw h holds_root) e;
  ends = all-ahead (read_types us);
  cost = 0;
  grows = grows_same;
  weight = omega arith;
}

pub next : {s₀ s t : State} {ws vs : List ℕ} {ps rs qs : List Token} {us : Sexps} {a b : Turn} → (w : Way s₀ s ws ps qs us a)
    → Moved s t vs rs qs w.point b → Way s₀ t vs rs qs us b
next w m =
    let i = w.weight in
    let j = m.weight in
    record {
      point = m.to;
      at = m.at;
      ends = m.outcome ∙ w.ends;
      cost = w.cost + m.cost;
      grows = grows_on w.grows m.grows;
      weight = omega arith;
    }
