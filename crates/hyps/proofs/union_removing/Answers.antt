use Rattle.hyps.specs.Leaving.{leaves_either}
use Rattle.hyps.proofs.Sifted.{sifted_both}
use Rattle.hyps.proofs.union_removing.Goals as goal

pub sift-requires : goal.sift-requires
sift-requires g c =
    let (u, d) = c.requires.term in
    let (vs, e) = c.requires.second in
    record { test = (_, leaves_either d e); terms = c.requires.first; list = c.requires.second }

pub returns : goal.returns
returns g c u us vs d h k = rw (sifted_both u us vs) at (c.sift.ensures _ us vs (leaves_either d k) h k)
