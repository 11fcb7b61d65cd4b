-- Which nodes the words hold.
use Rattle.std.specs.Prelude.{◌≡◌, ℕ, zero, suc, ◌+◌, ◌-◌, ◌*◌, ◌/◌, cond, List, [], ◌∷◌, length, Some, None, Option, ◌==◌, slice_index}
use Rattle.nodes.specs.declared.kind.Kind.{Kind}
use Rattle.nodes.specs.declared.node.Node.{Node}
use Rattle.nodes.specs.declared.table.Nodes.{Nodes}
use Rattle.nodes.specs.Kinds.{decode}

-- a node, if its word for the kind stands for one
abbrev pub of_kind : Option Kind → ℕ → ℕ → ℕ → Option Node
of_kind None x y z = None
of_kind (Some k) x y z = Some (record { kind = k; x = x; y = y; size = z })

-- the node in the four words from 4 k on
abbrev pub node_at : List ℕ → ℕ → Option Node
node_at ws k = of_kind (decode (slice_index ws (4 * k))) (slice_index ws (4 * k + 1)) (slice_index ws (4 * k + 2)) (slice_index ws (4 * k + 3))

-- the first n nodes, the newest first
abbrev pub rows : List ℕ → ℕ → List (Option Node)
rows ws zero = []
rows ws (suc k) = node_at ws k ∷ rows ws k

-- the nodes of a table of these words
abbrev pub all_rows : List ℕ → List (Option Node)
all_rows ws = rows ws (length ws / 4)

-- the node of the number n: numbers count from 1, and the newest has the largest
abbrev pub look : List (Option Node) → ℕ → Option Node
look [] n = None
look (d ∷ ds) n = cond (n == suc (length ds)) d (look ds n)

-- how many more nodes there is room for, when n are kept in ws
abbrev pub room : List ℕ → ℕ → ℕ
room ws n = length ws / 6 - n

-- the nodes of a table
abbrev pub rows_of : Nodes → List (Option Node)
rows_of s = rows s.words.now s.used

-- the node d was added, with the number n
pub record Added (s t : Nodes) (d : Node) (n : ℕ) : Type 0 where
  pub number : n ≡ suc s.used
  pub used : t.used ≡ suc s.used
  pub rows : rows_of t ≡ Some d ∷ rows_of s
  pub length : length t.words.now ≡ length s.words.now

-- nothing changed
pub record Unchanged (s t : Nodes) : Type 0 where
  pub used : t.used ≡ s.used
  pub words : t.words.now ≡ s.words.now

-- there was no room, and nothing changed
pub record Refused (s t : Nodes) : Type 0 where
  pub room : room s.words.now s.used ≡ 0
  pub same : Unchanged s t

-- a call that adds the node d, by its answer
abbrev pub Puts : Nodes → Nodes → Node → Option ℕ → Type 0
Puts s t d None = Refused s t
Puts s t d (Some n) = Added s t d n
