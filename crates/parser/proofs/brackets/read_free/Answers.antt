use Rattle.parser.proofs.Parts.{free_read}
use Rattle.parser.proofs.brackets.read_free.Goals as goal

pub returns : goal.returns
returns g c = λ ts qs e.
    let r = rw c.in-Some.is at c.in_ok-variable.ensures ts qs e in
    free_read r c.if-not-closes_next.ensures (rw c.in_ok-ok_or.ensures.ok_part at c.free.ensures)
