use Rattle.std.proofs.Common.{[]}
use Rattle.hyps.specs.Leaving.{leaves_same}
use Rattle.hyps.proofs.Sifted.{sifted-remove}
use Rattle.hyps.proofs.remove.Goals as goal

pub sift-requires : goal.sift-requires
sift-requires g c =
    let (u, e) = c.requires.term in
    record { test = (_, leaves_same e); terms = c.requires.list; list = ([], c.empty-empty.ensures.terms) }

pub returns : goal.returns
returns g c u us h k = rw (sifted-remove u us) at (c.sift.ensures _ us [] (leaves_same h) k c.empty-empty.ensures.terms)
