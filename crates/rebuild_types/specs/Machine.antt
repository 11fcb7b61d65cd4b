-- The machine that substitutes types for type variables in a type or a list of types: where it stands, and what one move does.
use Rattle.std.specs.Prelude.{◌≡◌, ℕ, ◌+◌, ◌*◌, ◌<◌, ◌≤◌, ◌⊎◌, List, [], ◌∷◌, Result}
use Rattle.std.proofs.Math.Option.{some}
use Rattle.hol.specs.Base.{Word}
use Rattle.hol.specs.Syntax.{Ty, tyapp, Tys, tcons, TySubst, subst_ty, subst_tys}
use Rattle.store.specs.Measures.{nodes_ty, nodes_tys}
use Rattle.store.specs.State.{Contents, State, Grows}
use Rattle.lent.specs.Answers.{Answers}
use Rattle.lent.specs.declared.NoRoom.{NoRoom}
use Rattle.rebuild_types.specs.declared.turn.Turn.{Turn}
use Rattle.rebuild_types.specs.declared.turn.Turn.TheVariants.{DownType, DownTypes, Up, End}
use Rattle.rebuild_types.specs.Codes.{code}
use Rattle.rebuild_types.specs.declared.turn.Wait.TheVariants.{Arguments, Head, Tail}

-- a type, or a list of types
pub data Sort : Type 0 where
  one : Sort
  many : Sort

abbrev pub Of : Sort → Type 0
Of one = Ty
Of many = Tys

abbrev pub nodes : (s : Sort) → Of s → ℕ
nodes one a = nodes_ty a
nodes many bs = nodes_tys bs

abbrev pub substituted : TySubst → (s : Sort) → Of s → Of s
substituted es one a = subst_ty es a
substituted es many bs = subst_tys es bs

pub data Item : Type 0 where
  ty : Ty → Item
  tys : Tys → Item

abbrev pub item : (s : Sort) → Of s → Item
item one a = ty a
item many bs = tys bs

abbrev pub subst_item : TySubst → Item → Item
subst_item es (ty a) = ty (subst_ty es a)
subst_item es (tys bs) = tys (subst_tys es bs)

abbrev pub nodes_item : Item → ℕ
nodes_item (ty a) = nodes_ty a
nodes_item (tys bs) = nodes_tys bs

-- the number stands for it
abbrev pub Is : Item → Contents → ℕ → Type 0
Is (ty a) c n = c.typ n ≡ some a
Is (tys bs) c n = c.types n ≡ some bs

-- What is around the part at hand, from inside out.
--   args_of w p    the arguments of the named type w
--   head_of bs p   the first type of a list; bs is the rest of it, to be done
--   tail_of a p    the rest of a list; a is its first type, done
pub data Path : Sort → Type 0 where
  root : {s : Sort} → Path s
  args_of : Word → Path one → Path many
  head_of : Tys → Path many → Path one
  tail_of : Ty → Path many → Path many

-- the whole, once the part at hand is x and all that is to be done is done
abbrev pub plug : TySubst → {s : Sort} → Path s → Of s → Item
plug es {s} root x = item s x
plug es (args_of w p) bs = plug es p (tyapp w bs)
plug es (head_of bs p) a = plug es p (tcons a (subst_tys es bs))
plug es (tail_of a p) bs = plug es p (tcons a bs)

-- how many nodes the parts around have that are done
abbrev pub finished : {s : Sort} → Path s → ℕ
finished root = 0
finished (args_of w p) = finished p
finished (head_of bs p) = finished p
finished (tail_of a p) = nodes_ty a + finished p

-- how many nodes are around that are to be built
abbrev pub waiting : {s : Sort} → Path s → ℕ
waiting root = 0
waiting (args_of w p) = 1 + waiting p
waiting (head_of bs p) = 1 + (nodes_tys bs + waiting p)
waiting (tail_of a p) = 1 + waiting p

-- how many moves are still to come for what is around
abbrev pub pending : {s : Sort} → Path s → ℕ
pending root = 1
pending (args_of w p) = 1 + pending p
pending (head_of bs p) = 3 + (4 * nodes_tys bs + pending p)
pending (tail_of a p) = 1 + pending p

-- The words of the stack, two for each step of a path: what waits, and the number that it keeps.
pub data Holds (c : Contents) : (s : Sort) → List ℕ → Path s → Type 0 where
  holds_root : {s : Sort} → Holds c s [] (root {s = s})
  holds_args : {ws vs : List ℕ} {n : ℕ} {w : Word} {p : Path one} → ws ≡ code Arguments ∷ n ∷ vs → c.word n ≡ some w
      → Holds c one vs p → Holds c many ws (args_of w p)
  holds_head : {ws vs : List ℕ} {n : ℕ} {bs : Tys} {p : Path many} → ws ≡ code Head ∷ n ∷ vs → c.types n ≡ some bs
      → Holds c many vs p → Holds c one ws (head_of bs p)
  holds_tail : {ws vs : List ℕ} {n : ℕ} {a : Ty} {p : Path many} → ws ≡ code Tail ∷ n ∷ vs → c.typ n ≡ some a
      → Holds c many vs p → Holds c many ws (tail_of a p)

-- where the machine is: going down into x, which is to be done, or up with x, which is done
pub data Point : Type 0 where
  down : {s : Sort} → Path s → Of s → Point
  up : {s : Sort} → Path s → Of s → Point
  end : (s : Sort) → Of s → Point

-- what it will have made in the end
abbrev pub outcome : TySubst → Point → Item
outcome es (down {s} p x) = plug es p (substituted es s x)
outcome es (up p x) = plug es p x
outcome es (end s x) = item s x

-- how many nodes it may have spent
abbrev pub spent : Point → ℕ
spent (down p x) = finished p
spent (up {s} p x) = nodes s x + finished p
spent (end s x) = nodes s x

-- how many nodes of the old type it still has to do with
abbrev pub weight : Point → ℕ
weight (down {s} p x) = nodes s x + waiting p
weight (up p x) = waiting p
weight (end s x) = 0

-- how many moves are still to come, at most
abbrev pub moves : Point → ℕ
moves (down {s} p x) = 1 + (4 * nodes s x + pending p)
moves (up p x) = pending p
moves (end s x) = 0

-- a turn and a stack's words are this point
pub data At (c : Contents) (ws : List ℕ) : Turn → Point → Type 0 where
  at_type : {n : ℕ} {a : Ty} {p : Path one} → c.typ n ≡ some a → Holds c one ws p → At c ws (DownType n) (down p a)
  at_types : {n : ℕ} {bs : Tys} {p : Path many} → c.types n ≡ some bs → Holds c many ws p → At c ws (DownTypes n) (down p bs)
  at_up : {n : ℕ} {s : Sort} {x : Of s} {p : Path s} → Is (item s x) c n → Holds c s ws p → At c ws (Up n) (up p x)
  at_end : {n : ℕ} {s : Sort} {x : Of s} → Is (item s x) c n → At c ws (End n) (end s x)

-- one move from the point x came to this turn: the outcome is the same
pub record Moved (es : TySubst) (s t : State) (ws : List ℕ) (x : Point) (turn : Turn) : Type 0 where
  pub to : Point
  pub at : At t.contents ws turn to
  pub outcome : outcome es to ≡ outcome es x
  pub cost : ℕ
  pub grows : Grows cost s t
  pub spent : spent x + cost ≤ spent to
  pub weight : weight to ≤ weight x
  pub moves : moves to < moves x

-- a move from x is refused only for want of words or of nodes
abbrev pub Stuck : TySubst → (capacity : ℕ) → State → Point → Type 0
Stuck es capacity s x = (capacity < 4 * weight x) ⊎ (s.left + spent x < nodes_item (outcome es x))

-- a move from x with a stack of so many words, by its answer
abbrev pub Moves : TySubst → (capacity : ℕ) → State → State → List ℕ → Point → Result Turn NoRoom → Type 0
Moves es capacity s t ws x r = Answers (Stuck es capacity s x) (Moved es s t ws x) r
