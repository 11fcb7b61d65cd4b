use Rattle.std.proofs.Common.{[]}
use Rattle.hyps.specs.Leaving.{leaves_repeated}
use Rattle.hyps.proofs.Sifted.{sifted-once}
use Rattle.hyps.proofs.dedup.Goals as goal

pub sift-requires : goal.sift-requires
sift-requires g c = record { test = (_, leaves_repeated); terms = c.requires.list; list = ([], c.empty-empty.ensures.terms) }

pub returns : goal.returns
returns g c us h = rw (sifted-once us) at (c.sift.ensures _ us [] leaves_repeated h c.empty-empty.ensures.terms)
