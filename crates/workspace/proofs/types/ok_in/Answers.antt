use Rattle.std.proofs.Common.{inl, sym, ◌∙◌, arith}
use Rattle.workspace.specs.Refusals.{passed, failed, untested}
use Rattle.workspace.proofs.Serving.{no_room}
use Rattle.workspace.proofs.types.ok_in.Goals as goal

pub returns-in_err-ok_type : goal.returns-in_err-ok_type
returns-in_err-ok_type g c =
    let e = c.in_err-ok_type.ensures in
    record {
      stays = e.stays;
      cases = λ th b h k. rw (no_room c.from_residual.result c.from_residual.ensures.1) (untested (inl (let x = e.cases th b h k in omega arith)));
    }

pub returns-then-branch : goal.returns-then-branch
returns-then-branch g c =
    let e = c.in_ok-ok_type.ensures in
    record { stays = e.stays; cases = λ th b h k. passed (sym (e.cases th b h k) ∙ c.if-branch.true) }

pub returns-else-branch : goal.returns-else-branch
returns-else-branch g c =
    let e = c.in_ok-ok_type.ensures in
    record { stays = e.stays; cases = λ th b h k. failed (sym (e.cases th b h k) ∙ c.if-branch.false) }
