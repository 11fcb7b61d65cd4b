use Rattle.std.proofs.Common.{◌/◌, length, sym, ap, ◌∙◌, arith}
use Rattle.nodes.proofs.Rows.{look_zero, look-above, look_read, length-rows}
use Rattle.nodes.proofs.Reading.{gets}
use Rattle.nodes.proofs.table.access.node_of.Goals.{then-n-eq-EMPTY-via-then-n-eq-EMPTY, then-n-eq-EMPTY-via-else-n-eq-EMPTY+then-n-words}
use Rattle.nodes.proofs.table.access.node_of.Goals as goal
use Rattle.nodes.specs.Table.{rows, look}

pub returns-then-n-eq-EMPTY : goal.returns-then-n-eq-EMPTY
returns-then-n-eq-EMPTY c =
    let ds = rows c.args.words.now (length c.args.words.now / 4) in
    let l = length-rows c.args.words.now (length c.args.words.now / 4) in
    elim c.then-n-eq-EMPTY.branch [
      | then-n-eq-EMPTY-via-then-n-eq-EMPTY w ↦ gets ds _ (sym (look_zero ds) ∙ ap (look ds) (sym w.if-n-eq-EMPTY.true))
      | then-n-eq-EMPTY-via-else-n-eq-EMPTY+then-n-words w ↦ gets ds _ (sym (look-above _ c.args.n (omega (arith, w.if-n-words.true))))
    ]

pub returns-in_err-ok : goal.returns-in_err-ok
returns-in_err-ok c =
    let ws = c.args.words.now in
    rw c.from_residual.ensures
    (gets (rows ws (length c.args.words.now / 4)) _
    (look_read ws (length c.args.words.now / 4) c.args.n _ c.if-n-eq-EMPTY.false (omega (arith, c.if-n-words.false)) (c.in_err-ok.ensures.value ∙ c.try_from.ensures)))

pub returns : goal.returns
returns c =
    let ws = c.args.words.now in
    gets (rows ws (length c.args.words.now / 4)) _
    (look_read ws (length c.args.words.now / 4) c.args.n _ c.if-n-eq-EMPTY.false (omega (arith, c.if-n-words.false)) (c.in_ok-ok.ensures.value ∙ c.try_from.ensures))
