use Rattle.std.proofs.Common.{refl, arith}
use Rattle.std.proofs.lemmas.Result.{err_from_is_err_and}
use Rattle.store.proofs.Growth.{stays_on}
use Rattle.workspace.proofs.Serving.{untested_too, lacks_more, lacks_after, passed_of}
use Rattle.kernel.proofs.Giving.{tests_too}
use Rattle.kernel.proofs.binding.may_bind.Goals as goal

pub returns-in_err-ok_in : goal.returns-in_err-ok_in
returns-in_err-ok_in g c =
    let a = c.in_err-ok_in.ensures in
    let (y, is, same) = err_from_is_err_and c.from_residual.result c.from_residual.ensures.1 in
    record {
      stays = a.stays;
      cases = λ th w b us hk hx ha hs.
          rw (is, same) (untested_too _ (a.cases th b hk ha) (lacks_more (omega arith) (omega arith)) (λ e. rw e refl));
    }

pub free_in_none-requires : goal.free_in_none-requires
free_in_none-requires g c =
    let k = c.in_ok-ok_in.ensures.stays.grows.keeps in
    record {
      name = (_, k.word _ _ c.requires.name.1);
      typ = (_, k.typ _ _ c.requires.typ.1);
      list = (_, k.terms _ _ c.requires.list.1);
    }

pub returns : goal.returns
returns g c =
    let a = c.in_ok-ok_in.ensures in
    let n = c.free_in_none.ensures in
    let k = a.stays.grows.keeps in
    record {
      stays = stays_on a.stays n.stays;
      cases = λ th w b us hk hx ha hs.
          tests_too (passed_of (a.cases th b hk ha)) (lacks_after _ _ _ _ _ _ 0 0 (omega arith) (omega arith) (omega (arith, a.stays.left)))
          (n.cases w b us (k.word _ _ hx) (k.typ _ _ ha) (k.terms _ _ hs));
    }
