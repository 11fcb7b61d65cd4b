use Rattle.std.proofs.Common.{sym, ◌∙◌, arith}
use Rattle.std.proofs.lemmas.Result.{err_from_is_err_and}
use Rattle.store.proofs.Growth.{grows_on, grows-more}
use Rattle.names.proofs.Compared.{types_compared}
use Rattle.workspace.specs.Refusals.{served, passed, failed}
use Rattle.workspace.proofs.Serving.{kept_of, not_passed}
use Rattle.workspace.proofs.Hastype.{has_none, has_some}
use Rattle.workspace.proofs.types.has_type.Goals as goal

pub returns-in_err-b : goal.returns-in_err-b
returns-in_err-b g c =
    let (y, is, same) = err_from_is_err_and c.from_residual.result c.from_residual.ensures.1 in
    let e = c.in_err-b.ensures in
    rw (is, same) record {
      grows = λ th u h₁ h₂ n. kept_of _ (e th u h₁ h₂) n;
      cases = λ th u b h₁ h₂ h₃. not_passed _ (e th u h₁ h₂) (has_none th u b);
    }

pub returns-then-same_type : goal.returns-then-same_type
returns-then-same_type g c =
    let same = c.same_type.ensures in
    record {
      grows = λ th u h₁ h₂ h₃. elim (c.in_ok-b.ensures th u h₁ h₂) [ served a e m ↦ grows-more (omega arith) (grows_on m.grows same.stays.grows) ];
      cases = λ th u b h₁ h₂ h₃. elim (c.in_ok-b.ensures th u h₁ h₂) [
        | served a e m ↦ passed (has_some th u b e ∙ (sym (types_compared (m.grows.keeps.typ _ _ h₃) m.stands same.sound same.complete) ∙ c.if-same_type.true))
      ];
    }

pub returns-else-same_type : goal.returns-else-same_type
returns-else-same_type g c =
    let same = c.same_type.ensures in
    record {
      grows = λ th u h₁ h₂ h₃. elim (c.in_ok-b.ensures th u h₁ h₂) [ served a e m ↦ grows-more (omega arith) (grows_on m.grows same.stays.grows) ];
      cases = λ th u b h₁ h₂ h₃. elim (c.in_ok-b.ensures th u h₁ h₂) [
        | served a e m ↦ failed (has_some th u b e ∙ (sym (types_compared (m.grows.keeps.typ _ _ h₃) m.stands same.sound same.complete) ∙ c.if-same_type.false))
      ];
    }
