use Rattle.std.proofs.Common.{reverse}
use Rattle.std.proofs.lemmas.Iterator.Adapters.{YieldsList-from_rev_slice}
use Rattle.std.proofs.lemmas.Iterator.Consumers.{nth_from_yields_List}
use Rattle.typing.proofs.Scopes.{copied_found}
use Rattle.typing.proofs.scope.type_at.Goals as goal

pub returns : goal.returns
returns c =
    let words = c.as_slice.result.now in
    let all = YieldsList-from_rev_slice {s = c.rev.result} words (rw c.rev.ensures.source c.iter.ensures.rest) in
    let e = nth_from_yields_List c.nth.result c.nth.new.self c.args.n c.nth.ensures.ran all in
    rw (← c.as_slice.ensures, c.copied.ensures) (copied_found (reverse words) c.args.n c.nth.result e)
