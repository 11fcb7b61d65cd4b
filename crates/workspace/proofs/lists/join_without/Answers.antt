use Rattle.std.proofs.Common.{inl, inr, arith}
use Rattle.std.proofs.lemmas.Result.{err_from_is_err_and}
use Rattle.hol.specs.Kernel.{remove}
use Rattle.store.proofs.Growth.{grows_on, grows-more}
use Rattle.workspace.proofs.Serving.{answers_on, lacks_one, lacks_more}
use Rattle.workspace.proofs.Joining.{behind}
use Rattle.workspace.proofs.lists.join_without.Goals as goal

pub returns-in_err-rest : goal.returns-in_err-rest
returns-in_err-rest g c us vs x y h₁ h₂ h₃ h₄ =
    let n = behind (remove x us) (remove y vs) in
    let w = err_from_is_err_and c.from_residual.result c.from_residual.ensures.1 in
    rw w.1 (lacks_more (omega arith) (omega arith) (lacks_one (c.in_err-rest.ensures y vs h₄ h₂)))

pub union_removing-requires : goal.union_removing-requires
union_removing-requires g c =
    let m = c.in_ok-rest.ensures _ _ c.requires.other.1 c.requires.second.1 in
    record {
      term = (_, m.grows.keeps.term _ _ c.requires.term.1);
      first = (_, m.grows.keeps.terms _ _ c.requires.first.1);
      second = (_, m.stands);
    }

pub returns : goal.returns
returns g c us vs x y h₁ h₂ h₃ h₄ =
    let m = c.in_ok-rest.ensures y vs h₄ h₂ in
    let k = m.grows.keeps in
    let n = behind (remove x us) (remove y vs) in
    answers_on c.union_removing.result (c.union_removing.ensures x us (remove y vs) (k.term _ _ h₃) (k.terms _ _ h₁) m.stands)
    (λ z. elim z [ inl a ↦ inl (omega arith) | inr b ↦ inr (omega (arith, m.grows.cost)) ])
    (λ i l. record { grows = grows-more (omega arith) (grows_on m.grows l.grows); stands = l.stands })
