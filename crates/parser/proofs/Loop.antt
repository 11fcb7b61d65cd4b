-- The loop that reads a term: from one turn to the next.
use Rattle.std.proofs.Common.{◌≡◌, ℕ, ◌+◌, ◌<◌, ◌≤◌, List, [], ◌∷◌, ◌++◌, Some, None, Option as Answer, sym, refl, ◌∙◌, inl, inr, arith}
use mathlib.Core.Option.{Option, none}
use Rattle.hol.specs.Syntax.{Tm}
use Rattle.hol.specs.Text.{Token, closes, Sexp, read_term}
use Rattle.reader.specs.Flat.{flat, cost, depth}
use Rattle.store.specs.State.{State, Grows}
use Rattle.store.proofs.Growth.{grows_same, grows_on, grows-more}
use Rattle.parser_types.specs.Reads.{Read, Unread}
use Rattle.parser.specs.Machine.{root, Point, down, lost, outcome, weight, holds_root, At, at_down, at_lost, at_end, load, MovedOn, moved, no_more, Short}
use Rattle.parser.specs.declared.turn.Turn.{Turn}
use Rattle.parser.specs.declared.turn.Turn.TheVariants.{Down, End}

-- On the way from s₀, where a tree was ahead that costs k and of which o is read, then qs: what comes out is o, and what was paid and
-- what is still to be paid is no more than k.
pub record Way (s₀ s : State) (ws zs : List ℕ) (ps qs : List Token) (o : Option Tm) (k : ℕ) (turn : Turn) : Type 0 where
  pub point : Point
  pub at : At s.contents ws zs ps qs turn point
  pub ends : outcome point ≡ o
  pub paid : ℕ
  pub grows : Grows paid s₀ s
  pub owes : paid + weight point ≤ k

-- the same, or nothing could be read
abbrev pub WayOn : (s₀ s : State) (ws zs : List ℕ) (ps qs : List Token) (o : Option Tm) (k : ℕ) → Answer Turn → Type 0
WayOn s₀ s ws zs ps qs o k (Some turn) = Way s₀ s ws zs ps qs o k turn
WayOn s₀ s ws zs ps qs o k None = Unread o k s₀ s

pub start : {s : State} {ws zs : List ℕ} {ps qs : List Token} {n : ℕ} (u : Sexp) → ws ≡ [] → zs ≡ [] → ps ≡ flat u ++ qs → depth u ≤ n
    → Way s s ws zs ps qs (read_term n [] u) (cost u) Down
start {n = n} u h i e d = record {
  point = down root n u;
  at = at_down (rw (h, i) holds_root) e d;
  ends = refl;
  paid = 0;
  grows = grows_same;
  owes = omega arith;
}

-- a bracket that closes is ahead
pub start_lost : {s : State} {ws zs : List ℕ} {ps qs : List Token} → ps ≡ closes ∷ qs → Way s s ws zs ps qs none 0 Down
start_lost e = record { point = lost; at = at_lost e; ends = refl; paid = 0; grows = grows_same; owes = omega arith }

module _ {s₀ s : State} {ws zs : List ℕ} {ps qs : List Token} {o : Option Tm} {k : ℕ} where
  pub next : {t : State} {vs ys : List ℕ} {rs : List Token} {a : Turn} {b : Answer Turn} {l : ℕ} → (w : Way s₀ s ws zs ps qs o k a)
      → MovedOn l s t vs ys rs qs w.point b → WayOn s₀ t vs ys rs qs o k b
  next w (moved m) =
      let i = w.owes in
      let j = m.weight in
      record {
        point = m.to;
        at = m.at;
        ends = m.outcome ∙ w.ends;
        paid = w.paid + m.cost;
        grows = grows_on w.grows m.grows;
        owes = omega arith;
      }
  next w (no_more m) = let i = w.owes in record { reads = sym w.ends ∙ m.outcome; grows = grows-more (omega arith) (grows_on w.grows m.grows) }

  pub stuck : {a : Turn} {room names : ℕ} → (w : Way s₀ s ws zs ps qs o k a) → Short room names (weight w.point) s
      → Short room names k s₀
  stuck w (inl l) = let i = w.owes in let j = w.grows.cost in inl (omega arith)
  stuck w (inr (inl l)) = let i = w.owes in inr (inl (omega arith))
  stuck w (inr (inr l)) = let i = w.owes in inr (inr (omega arith))

  pub term_read : {n : ℕ} → Way s₀ s ws zs ps qs o k (End n) → Read (λ c. c.term) o k s₀ s qs ps n
  term_read {n} w = go w.at w.ends w.owes
    where
      go : {x : Point} → At s.contents ws zs ps qs (End n) x → outcome x ≡ o → w.paid + weight x ≤ k
          → Read (λ c. c.term) o k s₀ s qs ps n
      go (at_end {t = t} m e) i l = record {
        value = t;
        reads = sym i;
        stands = m;
        grows = grows-more (omega arith) w.grows;
        behind = e;
      }

-- one move less
pub falls : {s t : State} {ws zs : List ℕ} {ps qs : List Token} {x : Point} {l : ℕ} {b : Answer Turn} → 0 < l → MovedOn l s t ws zs ps qs x b
    → load b ws ps < l
falls h (moved m) = m.falls
falls h (no_more m) = h
