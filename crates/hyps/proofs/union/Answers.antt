use Rattle.hyps.specs.Leaving.{leaves_in}
use Rattle.hyps.proofs.Sifted.{sifted-union}
use Rattle.hyps.proofs.union.Goals as goal

pub sift-requires : goal.sift-requires
sift-requires g c =
    let (vs, e) = c.requires.second in
    record { test = (_, leaves_in e); terms = c.requires.first; list = c.requires.second }

pub returns : goal.returns
returns g c us vs h k = rw (sifted-union us vs) at (c.sift.ensures _ us vs (leaves_in k) h k)
