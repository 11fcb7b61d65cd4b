-- What the nodes of a table stand for.
use Rattle.std.specs.Prelude.{◌≡◌, ℕ, suc, Bool, true, false, cond, List, [], ◌∷◌, length, Some, None, Option as Answer, ◌==◌, nat_lt}
use Rattle.std.proofs.Math.Option.{Option, some, none}
use Rattle.hol.specs.Base.{Word, bind, guard}
use Rattle.hol.specs.Syntax.{Ty, Tys, Tm, tyvar, tyapp, fvar, bvar, const, app, lam}
use Rattle.store.specs.Measures.{nodes_ty, nodes_tys, nodes_tm, nodes_tms, capped}
use Rattle.store.specs.State.{Contents, State}
use Rattle.nodes.specs.declared.kind.Kind.{Kind}
use Rattle.nodes.specs.declared.kind.Kind.TheVariants.{Byte, TypeVariable, TypeNamed, TypeCell, Free, Bound, Constant, Apply, Lambda, TermCell}
use Rattle.nodes.specs.declared.node.Node.{Node}
use Rattle.nodes.specs.declared.table.Nodes.{Nodes}
use Rattle.nodes.specs.Table.{rows, look, room}
use Rattle.nodes.specs.Items.{Item, nil, name, ty, tys, tm, tms, contents, Holds, tree_size}

-- the empty name
abbrev pub is_empty : Option Word → Bool
is_empty none = false
is_empty (some []) = true
is_empty (some (b ∷ w)) = false

-- what is made of the parts x and y by a node of this kind, if they stand for what they should
abbrev pub made : Contents → Kind → ℕ → ℕ → Option Item
made c Byte x y = guard (nat_lt x 256) (bind (c.word y) (λ w. some (name x w)))
made c TypeVariable x y = guard (is_empty (c.word y)) (bind (c.word x) (λ w. some (ty (tyvar w))))
made c TypeNamed x y = bind (c.word x) (λ w. bind (c.types y) (λ bs. some (ty (tyapp w bs))))
made c TypeCell x y = bind (c.typ x) (λ b. bind (c.types y) (λ bs. some (tys b bs)))
made c Free x y = bind (c.word x) (λ w. bind (c.typ y) (λ b. some (tm (fvar w b))))
made c Bound x y = guard (is_empty (c.word y)) (some (tm (bvar x)))
made c Constant x y = bind (c.word x) (λ w. bind (c.types y) (λ bs. some (tm (const w bs))))
made c Apply x y = bind (c.term x) (λ s. bind (c.term y) (λ t. some (tm (app s t))))
made c Lambda x y = bind (c.typ x) (λ b. bind (c.term y) (λ t. some (tm (lam b t))))
made c TermCell x y = bind (c.term x) (λ s. bind (c.terms y) (λ ts. some (tms s ts)))

-- what a node stands for: a node whose size is wrong stands for nothing
abbrev pub mean : Contents → Answer Node → Option Item
mean c None = none
mean c (Some d) = bind (made c d.kind d.x d.y) (λ i. guard (d.size == tree_size i) (some i))

-- what a number stands for. A node reads only the nodes before it, and a number that no node has stands for nothing.
abbrev pub items : List (Answer Node) → ℕ → Option Item
items [] n = cond (n == 0) (some nil) none
items (d ∷ ds) n = cond (n == suc (length ds)) (mean (contents (items ds)) d) (items ds n)

-- what the first n nodes in these words stand for
abbrev pub held : List ℕ → ℕ → Contents
held ws n = contents (items (rows ws n))

-- the state of a table
abbrev pub state_in : List ℕ → ℕ → State
state_in ws n =
    record { contents = held ws n; left = room ws n; count = n; at = λ m. held ws m; left_at = λ m. room ws m }

abbrev pub state_of : Nodes → State
state_of s = state_in s.words.now s.used

-- WHAT THE CALLS SAY
-- the number n stands for what this kind makes of x and y, if it makes something of them
abbrev pub IsMade : Kind → ℕ → ℕ → Contents → ℕ → Type 0
IsMade k x y c n = (i : Item) → made c k x y ≡ some i → Holds c n i

-- the node of a number that stands for i: it is made of its parts; the number 0 has no node
abbrev pub Shows : Contents → ℕ → Item → Answer Node → Type 0
Shows c n i None = (n ≡ 0) × (i ≡ nil)
Shows c n i (Some d) = made c d.kind d.x d.y ≡ some i

-- reading the node of a number
pub record Gets (ds : List (Answer Node)) (n : ℕ) (r : Answer Node) : Type 0 where
  pub node : r ≡ look ds n
  pub shows : (i : Item) → Holds (contents (items ds)) n i → Shows (contents (items ds)) n i r

-- the size of what n stands for
pub record Sized (c : Contents) (n r : ℕ) : Type 0 where
  pub word : (w : Word) → c.word n ≡ some w → r ≡ capped (length w)
  pub typ : (a : Ty) → c.typ n ≡ some a → r ≡ capped (nodes_ty a)
  pub types : (bs : Tys) → c.types n ≡ some bs → r ≡ capped (nodes_tys bs)
  pub term : (t : Tm) → c.term n ≡ some t → r ≡ capped (nodes_tm t)
  pub terms : (ts : List Tm) → c.terms n ≡ some ts → r ≡ capped (nodes_tms ts)
