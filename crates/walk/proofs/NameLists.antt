-- A list of names in words: looking for a name in it, and putting one on top of it.
use Rattle.std.proofs.Common.{◌≡◌, ℕ, ◌+◌, ◌<◌, ◌≤◌, true, false, ◌||◌, List, [], ◌∷◌, length, get_or, drop, reverse, ◌++◌, append_assoc, length-append, Ok, Err, Result, sym, refl, ap, ◌∙◌, arith}
use mathlib.Core.Option.{some}
use Rattle.std.proofs.lemmas.List.{drop_more, drop_all, reverse-append, reverse-reverse}
use Rattle.hol.specs.Base.{Word, same_word, among}
use Rattle.hol.specs.Syntax.{insert}
use Rattle.store.specs.State.{Contents, Keeps}
use Rattle.lent.specs.Piles.{Pile, spare, Pushes}
use Rattle.lent.specs.declared.NoRoom.{NoRoom}
use Rattle.walk.specs.Standing.{done, more, Names}
use Rattle.walk.specs.TypeVars.{Adds, Gathers}
use Rattle.walk.proofs.Pending.{stand_append, stand_kept}

-- w is none of the first i of the words ns
pub record Seeking (c : Contents) (w : Word) (ws : List Word) (ns : List ℕ) (i : ℕ) : Type 0 where
  pub rest : List Word
  pub names : Names c (drop i ns) rest
  pub same : among w ws ≡ among w rest

-- the word at i stands for v
pub record Met (c : Contents) (w : Word) (ws : List Word) (ns : List ℕ) (i : ℕ) : Type 0 where
  pub name : Word
  pub name_is : c.word (get_or ns i 0) ≡ some name
  pub found : same_word w name ≡ true → among w ws ≡ true
  pub missed : same_word w name ≡ false → Seeking c w ws ns (i + 1)

module _ {c : Contents} {w : Word} {ws : List Word} {ns : List ℕ} where
  pub met : {i : ℕ} → Seeking c w ws ns i → i < length ns → Met c w ws ns i
  met {i} k l = of (rw (drop_more ns i 0 l) at k.names) k.same
    where
      of : {vs : List Word} → Names c (get_or ns i 0 ∷ drop (i + 1) ns) vs → among w ws ≡ among w vs → Met c w ws ns i
      of (more {i = v} {is = vs} e h) q = record {
        name = v;
        name_is = e;
        found = λ t. q ∙ ap (λ b. b || among w vs) t;
        missed = λ f. record { rest = vs; names = h; same = q ∙ ap (λ b. b || among w vs) f };
      }

  pub none_left : {i : ℕ} → Seeking c w ws ns i → length ns ≤ i → among w ws ≡ false
  none_left {i} k l = of (rw (drop_all i ns l) at k.names) k.same
    where
      of : {vs : List Word} → Names c [] vs → among w ws ≡ among w vs → among w ws ≡ false
      of done q = q

pub begin_seeking : (c : Contents) (w : Word) {ws : List Word} {ns : List ℕ} → Names c ns ws → Seeking c w ws ns 0
begin_seeking c w {ws} h = record { rest = ws; names = h; same = refl }

pub names_kept : {c d : Contents} → Keeps c d → {ns : List ℕ} {ws : List Word} → Names c ns ws → Names d ns ws
names_kept k h = stand_kept k.word h

-- PUTTING A NAME ON TOP
pub adds_none : {p : Pile} → Adds p p
adds_none = record { added = []; held = refl; capacity = refl; name = refl }

pub adds_pushed : (n : ℕ) (p q : Pile) (r : Result (Unit {0}) NoRoom) → Pushes (n ∷ []) p q r → Adds p q
adds_pushed n p q (Ok x) e = record { added = n ∷ []; held = e.0; capacity = e.1; name = e.2 }
adds_pushed n p q (Err x) e = rw e.0 adds_none

pub adds_trans : {p q r : Pile} → Adds p q → Adds q r → Adds p r
adds_trans {p} {q} {r} a b = record {
  added = b.added ++ a.added;
  held = b.held ∙ (ap (λ ns. b.added ++ ns) a.held ∙ sym (append_assoc b.added a.added p.held));
  capacity = b.capacity ∙ a.capacity;
  name = b.name ∙ a.name;
}

pub adds_long : {p q : Pile} → Adds p q → length p.held ≤ length q.held
adds_long {p} {q} a = omega (arith, ap length a.held, length-append a.added p.held)

-- the words of a stack, the oldest first
pub listed : (c : Contents) {ns ms : List ℕ} {ws : List Word} → reverse ms ≡ ns → Names c (reverse ns) ws → Names c ms ws
listed c {ms = ms} e h = rw (← e, reverse-reverse ms) at h

module _ {c d : Contents} (k : Keeps c d) (w : Word) {ws : List Word} (ns : List ℕ) (h : Names c (reverse ns) ws) where
  -- a name that is there
  pub put-known : among w ws ≡ true → Names d (reverse ns) (insert w ws)
  put-known t = rw t (names_kept k h)

  -- a new name
  pub put_new : (v : ℕ) → c.word v ≡ some w → among w ws ≡ false → {ms : List ℕ} → ms ≡ v ∷ ns → Names d (reverse ms) (insert w ws)
  put_new v e f b = rw (f, b, reverse-append (v ∷ []) ns) (stand_append (names_kept k h) (more (k.word v w e) done))

-- a new name, if there is a place for it
pub put_all : {c d : Contents} → Keeps c d → (w : Word) {ws : List Word} (p q : Pile) → Names c (reverse p.held) ws → (v : ℕ)
    → c.word v ≡ some w → among w ws ≡ false → (r : Result (Unit {0}) NoRoom) → Pushes (v ∷ []) p q r
    → Gathers (spare p < 1) d (insert w ws) p q r
put_all k w p q h v e f (Ok x) b = put_new k w p.held h v e f b.0
put_all k w p q h v e f (Err x) b = (b.0, omega (arith, b.1))
