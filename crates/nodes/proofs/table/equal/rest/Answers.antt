use Rattle.std.proofs.Common.{◌/◌, length, refl, inl, inr}
use Rattle.nodes.specs.Table.{all_rows}
use Rattle.nodes.proofs.Rows.{length-rows}
use Rattle.nodes.proofs.Agreeing.{no_node, apart, one_left, two-left}
use Rattle.nodes.proofs.table.equal.rest.Goals as goal

pub returns-in_err-c : goal.returns-in_err-c
returns-in_err-c c =
    rw c.from_residual.ensures
    (no_node (all_rows c.args.words.now) c.args.pair c.requires (inl c.in_err-c.ensures.node))

pub returns-in_err-d : goal.returns-in_err-d
returns-in_err-d c =
    rw c.from_residual-in_err-d.ensures
    (no_node (all_rows c.args.words.now) c.args.pair c.requires (inr c.in_err-d.ensures.node))

pub returns-then-not-agree : goal.returns-then-not-agree
returns-then-not-agree c =
    apart (all_rows c.args.words.now) c.args.pair c.requires c.in_ok-c.c c.in_ok-d.d
    c.in_ok-c.ensures.node c.in_ok-d.ensures.node (c.if-not-agree.ensures.fails refl)

pub returns-then-first_is_node : goal.returns-then-first_is_node
returns-then-first_is_node c =
    two-left (all_rows c.args.words.now) c.args.pair c.requires c.in_ok-c.c c.in_ok-d.d
    c.in_ok-c.ensures.node c.in_ok-d.ensures.node (length c.args.words.now / 4) (length-rows c.args.words.now _)
    (c.if-not-agree.ensures.holds refl) c.if-first_is_node.ensures

pub returns-else-first_is_node : goal.returns-else-first_is_node
returns-else-first_is_node c =
    one_left (all_rows c.args.words.now) c.args.pair c.requires c.in_ok-c.c c.in_ok-d.d
    c.in_ok-c.ensures.node c.in_ok-d.ensures.node (length c.args.words.now / 4) (length-rows c.args.words.now _)
    (c.if-not-agree.ensures.holds refl) c.if-first_is_node.ensures
