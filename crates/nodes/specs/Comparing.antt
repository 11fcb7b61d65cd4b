-- Comparing two numbers, by f, which says what numbers stand for.
use Rattle.std.proofs.Math.Option.{Option, some}
use Rattle.std.specs.Prelude.{◌≡◌, ℕ, ◌<◌, ◌≤◌, true, false, Some, None, Option as Answer}
use Rattle.nodes.specs.declared.node.Node.{Node}
use Rattle.nodes.specs.declared.pair.Pair.{Pair}
use Rattle.nodes.specs.declared.pair.Rest.{Rest}
use Rattle.nodes.specs.declared.pair.Rest.TheVariants.{Second, Both}
use Rattle.nodes.specs.Items.{Item}
use Rattle.nodes.specs.Kinds.{first_is_node}

-- the nodes c and d of the numbers a and b agree in all but the parts that are numbers of nodes, and these are smaller than a and b
pub record Agree (a : ℕ) (c : Node) (b : ℕ) (d : Node) : Type 0 where
  pub kind : c.kind ≡ d.kind
  pub size : c.size ≡ d.size
  pub plain : first_is_node c.kind ≡ false → c.x ≡ d.x
  pub first : first_is_node c.kind ≡ true → (c.x < a) × (d.x < b)
  pub second : (c.y < a) × (d.y < b)

-- two numbers stand for the same thing, and for something
pub record Same (f : ℕ → Option Item) (p q : ℕ) : Type 0 where
  pub item : Item
  pub left : f p ≡ some item
  pub right : f q ≡ some item

-- the pair p stands for the same if q does, and only then; of n nodes
pub record OneLeft (f : ℕ → Option Item) (n : ℕ) (p q : Pair) : Type 0 where
  pub number : p.a ≤ n
  pub smaller : q.a < p.a
  pub sound : f q.a ≡ f q.b → f p.a ≡ f p.b
  pub complete : Same f p.a p.b → Same f q.a q.b

-- the pair p stands for the same if q and r do, and only then
pub record TwoLeft (f : ℕ → Option Item) (n : ℕ) (p q r : Pair) : Type 0 where
  pub number : p.a ≤ n
  pub smaller : (q.a < p.a) × (r.a < p.a)
  pub sound : f q.a ≡ f q.b → f r.a ≡ f r.b → f p.a ≡ f p.b
  pub complete : Same f p.a p.b → Same f q.a q.b × Same f r.a r.b

-- what is left of the pair p; or its numbers do not stand for the same
abbrev pub RestSays : (ℕ → Option Item) → ℕ → Pair → Answer Rest → Type 0
RestSays f n p None = Same f p.a p.b → ⊥
RestSays f n p (Some (Second q)) = OneLeft f n p q
RestSays f n p (Some (Both q r)) = TwoLeft f n p q r
