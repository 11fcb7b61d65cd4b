-- The kinds of nodes: the words that stand for them, and what their first part is.
use Rattle.std.specs.Prelude.{ℕ, Bool, true, false, ◌≡◌, cond, Some, None, Option, Result, ◌==◌}
use Rattle.std.specs.Result.{result_ok}
use Rattle.nodes.specs.declared.kind.Kind.{Kind}
use Rattle.nodes.specs.declared.kind.UnknownKind.{UnknownKind}
use Rattle.nodes.specs.declared.kind.Kind.TheVariants.{Byte, TypeVariable, TypeNamed, TypeCell, Free, Bound, Constant, Apply, Lambda, TermCell}

-- the word of a kind
abbrev pub encode : Kind → ℕ
encode Byte = 0
encode TypeVariable = 1
encode TypeNamed = 2
encode TypeCell = 3
encode Free = 4
encode Bound = 5
encode Constant = 6
encode Apply = 7
encode Lambda = 8
encode TermCell = 9

-- k where the word is that of k, else what follows
abbrev pub or_kind : Kind → ℕ → Option Kind → Option Kind
or_kind k n o = cond (n == encode k) (Some k) o

-- the kind of a word
abbrev pub decode : ℕ → Option Kind
decode n =
    or_kind Byte n (or_kind TypeVariable n (or_kind TypeNamed n (or_kind TypeCell n (or_kind Free n
    (or_kind Bound n (or_kind Constant n (or_kind Apply n (or_kind Lambda n (or_kind TermCell n None)))))))))

-- the result is the kind of this word, or an error where it has none
abbrev pub Decodes : ℕ → Result Kind UnknownKind → Type 0
Decodes n r = result_ok r ≡ decode n

-- is the first part counted in the size? Not a byte, a bound variable's number or a name.
abbrev pub counts_first : Kind → Bool
counts_first Byte = false
counts_first TypeVariable = false
counts_first TypeNamed = false
counts_first TypeCell = true
counts_first Free = false
counts_first Bound = false
counts_first Constant = false
counts_first Apply = true
counts_first Lambda = true
counts_first TermCell = true

-- is the first part a number of a node? Not a byte and a bound variable's number.
abbrev pub first_is_node : Kind → Bool
first_is_node Byte = false
first_is_node TypeVariable = true
first_is_node TypeNamed = true
first_is_node TypeCell = true
first_is_node Free = true
first_is_node Bound = false
first_is_node Constant = true
first_is_node Apply = true
first_is_node Lambda = true
first_is_node TermCell = true
