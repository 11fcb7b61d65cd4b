-- Which nodes the words hold, after a word was written and after a node was added; which node a number has.
use Rattle.std.proofs.Common.{◌≡◌, ℕ, zero, suc, ◌+◌, ◌-◌, ◌*◌, ◌/◌, ◌<◌, ◌≤◌, ◌≢◌, List, [], ◌∷◌, length, take, get_or, set, Some, None, Option, sym, refl, ap, ◌∙◌, subst, inl, inr, le_of_suc-le-suc, eq-or-lt_of_le, add-one, arith, length-set, get_or-set_other, get_or-set_same, eq-eqb, ne_eqb}
use Rattle.std.proofs.lemmas.List.{get_or-take, length-take-le}
use denote.Enum.Declared.{tag_of}
use Rattle.nodes.specs.contracts.kind.Kind.{the_type}
use Rattle.nodes.specs.declared.kind.Kind.{Kind}
use Rattle.nodes.specs.declared.kind.Kind.TheVariants.{Byte, TypeVariable, TypeNamed, TypeCell, Free, Bound, Constant, Apply, Lambda, TermCell}
use Rattle.nodes.specs.declared.node.Node.{Node}
use Rattle.nodes.specs.Kinds.{encode, decode}
use Rattle.nodes.specs.Table.{of_kind, node_at, rows, all_rows, look}

-- a write behind the first k nodes leaves them
pub rows-set : (ws : List ℕ) (k i v : ℕ) → 4 * k ≤ i → rows (set ws i v) k ≡ rows ws k
rows-set ws zero i v h = refl
rows-set ws (suc k) i v h =
    let n0 : 4 * k ≢ i = omega arith in
    let n1 : 4 * k + 1 ≢ i = omega arith in
    let n2 : 4 * k + 2 ≢ i = omega arith in
    let n3 : 4 * k + 3 ≢ i = omega arith in
    let below : 4 * k ≤ i = omega arith in
    cc (
      get_or-set_other ws i (4 * k) v 0 n0,
      get_or-set_other ws i (4 * k + 1) v 0 n1,
      get_or-set_other ws i (4 * k + 2) v 0 n2,
      get_or-set_other ws i (4 * k + 3) v 0 n3,
      rows-set ws k i v below,
    )

pub decode-encode : (k : Kind) → decode (encode k) ≡ Some k
decode-encode Byte = refl
decode-encode TypeVariable = refl
decode-encode TypeNamed = refl
decode-encode TypeCell = refl
decode-encode Free = refl
decode-encode Bound = refl
decode-encode Constant = refl
decode-encode Apply = refl
decode-encode Lambda = refl
decode-encode TermCell = refl

-- the word of a kind in the table
pub kind_code : (k : Kind) → tag_of the_type k ≡ encode k
kind_code Byte = refl
kind_code TypeVariable = refl
kind_code TypeNamed = refl
kind_code TypeCell = refl
kind_code Free = refl
kind_code Bound = refl
kind_code Constant = refl
kind_code Apply = refl
kind_code Lambda = refl
kind_code TermCell = refl

joined : {o : Option Kind} {d : Node} {x y z : ℕ} {ds es : List (Option Node)} → o ≡ Some d.kind → x ≡ d.x → y ≡ d.y → z ≡ d.size → ds ≡ es
    → of_kind o x y z ∷ ds ≡ Some d ∷ es
joined p q r s t = rw (p, q, r, s, t)

-- the words with a node written from i on; v is the word of its kind
abbrev pub written : List ℕ → ℕ → ℕ → Node → List ℕ
written ws i v d = set (set (set (set ws i v) (i + 1) d.x) (i + 2) d.y) (i + 3) d.size

pub length_written : (ws : List ℕ) (i v : ℕ) (d : Node) → length (written ws i v d) ≡ length ws
length_written ws i v d = simp length-set

-- a node written behind the first k is added to them
pub rows_written : (ws : List ℕ) (k v : ℕ) (d : Node) → v ≡ encode d.kind → 4 * k + 3 < length ws
    → rows (written ws (4 * k) v d) (k + 1) ≡ Some d ∷ rows ws k
rows_written ws k v d e h =
    rw (add-one k) (
    let v0 : List ℕ = set ws (4 * k) v in
    let v1 : List ℕ = set v0 (4 * k + 1) d.x in
    let v2 : List ℕ = set v1 (4 * k + 2) d.y in
    let l0 : length v0 ≡ length ws = length-set ws (4 * k) v in
    let l1 : length v1 ≡ length v0 = length-set v0 (4 * k + 1) d.x in
    let l2 : length v2 ≡ length v1 = length-set v1 (4 * k + 2) d.y in
    let z : get_or (written ws (4 * k) v d) (4 * k + 3) 0 ≡ d.size = get_or-set_same v2 (4 * k + 3) d.size 0 (omega arith) in
    let y : get_or (written ws (4 * k) v d) (4 * k + 2) 0 ≡ d.y =
    get_or-set_other v2 (4 * k + 3) (4 * k + 2) d.size 0 (omega arith) ∙ get_or-set_same v1 (4 * k + 2) d.y 0 (omega arith) in
    let x : get_or (written ws (4 * k) v d) (4 * k + 1) 0 ≡ d.x =
    get_or-set_other v2 (4 * k + 3) (4 * k + 1) d.size 0 (omega arith)
    ∙ get_or-set_other v1 (4 * k + 2) (4 * k + 1) d.y 0 (omega arith) ∙ get_or-set_same v0 (4 * k + 1) d.x 0 (omega arith) in
    let w : get_or (written ws (4 * k) v d) (4 * k) 0 ≡ v =
    get_or-set_other v2 (4 * k + 3) (4 * k) d.size 0 (omega arith)
    ∙ get_or-set_other v1 (4 * k + 2) (4 * k) d.y 0 (omega arith) ∙ get_or-set_other v0 (4 * k + 1) (4 * k) d.x 0 (omega arith)
    ∙ get_or-set_same ws (4 * k) v 0 (omega arith) in
    let rest : rows (written ws (4 * k) v d) k ≡ rows ws k =
    rows-set v2 k (4 * k + 3) d.size (omega arith) ∙ rows-set v1 k (4 * k + 2) d.y (omega arith)
    ∙ rows-set v0 k (4 * k + 1) d.x (omega arith) ∙ rows-set ws k (4 * k) v (omega arith) in
    joined (ap decode (w ∙ e) ∙ decode-encode d.kind) x y z rest)

pub length-rows : (ws : List ℕ) (k : ℕ) → length (rows ws k) ≡ k
length-rows ws zero = refl
length-rows ws (suc k) = ap suc (length-rows ws k)

-- the newest node, and the older ones
pub look_new : (d : Option Node) (ds : List (Option Node)) → look (d ∷ ds) (suc (length ds)) ≡ d
look_new d ds = rw (eq-eqb (suc (length ds)) (suc (length ds)) refl)

pub look_old : (d : Option Node) (ds : List (Option Node)) (n : ℕ) → n ≢ suc (length ds) → look (d ∷ ds) n ≡ look ds n
look_old d ds n h = rw (ne_eqb n (suc (length ds)) h)

-- no node has a number that is 0 or too large
pub look_zero : (ds : List (Option Node)) → look ds 0 ≡ None
look_zero [] = refl
look_zero (d ∷ ds) = look_old d ds 0 (omega arith) ∙ look_zero ds

pub look-above : (ds : List (Option Node)) (n : ℕ) → length ds < n → look ds n ≡ None
look-above [] n h = refl
look-above (d ∷ ds) n h = look_old d ds n (omega arith) ∙ look-above ds n (omega arith)

pub look-rows : (ws : List ℕ) (k n : ℕ) → n < k → look (rows ws k) (suc n) ≡ node_at ws n
look-rows ws zero n h = absurd (omega arith)
look-rows ws (suc k) n h =
    let l = length-rows ws k in
    elim (eq-or-lt_of_le (le_of_suc-le-suc h)) [
      | inr g ↦ look_old (node_at ws k) (rows ws k) (suc n) (omega arith) ∙ look-rows ws k n g
      | inl e ↦ rw e (subst (λ m. look (node_at ws k ∷ rows ws k) (suc m) ≡ node_at ws k) l (look_new (node_at ws k) (rows ws k)))
    ]

-- the node of a number, read from its four words; o is the kind of the first
pub look_read : (ws : List ℕ) (k n : ℕ) (o : Option Kind) → n ≢ 0 → n ≤ k → o ≡ decode (get_or ws (4 * (n - 1)) 0)
    → of_kind o (get_or ws (4 * (n - 1) + 1) 0) (get_or ws (4 * (n - 1) + 2) 0) (get_or ws (4 * (n - 1) + 3) 0) ≡ look (rows ws k) n
look_read ws k n o ne le e =
    let m : suc (n - 1) ≡ n = omega arith in
    rw e (sym (look-rows ws k (n - 1) (omega arith)) ∙ ap (look (rows ws k)) m)

-- nodes of words that begin alike
pub rows_take : (ws : List ℕ) (n k : ℕ) → 4 * k ≤ n → rows (take n ws) k ≡ rows ws k
rows_take ws n zero h = refl
rows_take ws n (suc k) h =
    let below : 4 * k ≤ n = omega arith in
    cc (
      get_or-take n ws (4 * k) 0 (omega arith),
      get_or-take n ws (4 * k + 1) 0 (omega arith),
      get_or-take n ws (4 * k + 2) 0 (omega arith),
      get_or-take n ws (4 * k + 3) 0 (omega arith),
      rows_take ws n k below,
    )

-- the words of the first n nodes
pub rows-front : (ws : List ℕ) (n : ℕ) → 4 * n ≤ length ws → all_rows (take (4 * n) ws) ≡ rows ws n
rows-front ws n h =
    let e : length (take (4 * n) ws) / 4 ≡ n = omega (arith, length-take-le (4 * n) ws h) in rw e (rows_take ws (4 * n) n (omega arith))

-- they stay where only the words behind them are written
pub rows_kept : (ws vs : List ℕ) (n : ℕ) → take (4 * n) vs ≡ take (4 * n) ws → (k : ℕ) → k ≤ n → rows vs k ≡ rows ws k
rows_kept ws vs n e k h =
    sym (rows_take vs (4 * n) k (omega arith)) ∙ ap (λ xs. rows xs k) e ∙ rows_take ws (4 * n) k (omega arith)
