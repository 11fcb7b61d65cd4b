-- What type substitution does at a leaf is what its change does.
use Rattle.std.proofs.Common.{◌≡◌, ℕ, ◌+◌, Some, None, Option, sym, ap, ◌∙◌, inr, arith}
use Rattle.std.specs.Option.{ok_or}
use mathlib.Core.Option.{some}
use Rattle.hol.specs.Syntax.{Tm, fvar, const, TySubst, subst_ty, subst_tys, inst_tm}
use Rattle.store.specs.Measures.{nodes_ty, nodes_tys, nodes_tm}
use Rattle.store.specs.State.{Contents, State, Grows}
use Rattle.store.specs.Builds.{Made, Builds, IsFree, IsConst}
use Rattle.store.specs.Views.{ViewFree, ViewConstant}
use Rattle.lent.specs.declared.NoRoom.{NoRoom}
use Rattle.rebuild_types.specs.Rebuilds.{Rebuilds}
use Rattle.store.proofs.Growth.{grows_on, grows-more}
use Rattle.rebuild.specs.Rebuilt.{Change, instantiating}

-- one node over a part that was made: the term y
over_part : {s t v : State} {P : Contents → ℕ → Type 0} {m : ℕ} (Q : Contents → ℕ → Type 0) (room need k : ℕ) (y : Tm) → nodes_tm y ≡ 1 + k
    → Made k s t P m → (r : Option ℕ) (e : NoRoom) → Builds 1 t v Q r → ((n : ℕ) → Grows 1 t v → Q v.contents n → v.contents.term n ≡ some y)
    → Rebuilds room need (nodes_tm y) s v (λ c n. c.term n ≡ some y) (ok_or r e)
over_part Q room need k y l b None e d f = let i = b.grows.cost in let j = d.short in inr (omega arith)
over_part Q room need k y l b (Some n) e d f = record {
  grows = grows-more (omega arith) (grows_on b.grows d.grows);
  stands = f n d.grows d.stands;
}

module _ (es : TySubst) (F : Change) (change : F ≡ instantiating es) (s t v : State) (room depth : ℕ) (u : Tm) where
  -- a free variable
  pub inst_free : (x a m : ℕ) (w : ViewFree s.contents x a u)
      → Made (nodes_ty (subst_ty es w.ty)) s t (λ c k. c.typ k ≡ some (subst_ty es w.ty)) m
      → (r : Option ℕ) (e : NoRoom) → Builds 1 t v (IsFree x m) r
      → Rebuilds room (nodes_tm u) (nodes_tm (F.leaf depth u)) s v (λ c n. c.term n ≡ some (F.leaf depth u)) (ok_or r e)
  inst_free x a m w b r e d =
      let i : F.leaf depth u ≡ fvar w.name (subst_ty es w.ty) = ap (λ (G : Change). G.leaf depth u) change ∙ ap (inst_tm es) w.is in
      over_part (IsFree x m) room (nodes_tm u) (nodes_ty (subst_ty es w.ty)) (F.leaf depth u) (ap nodes_tm i) b r e d
      (λ n g p.
      let k = g.keeps in
      p w.name (subst_ty es w.ty) (k.word x w.name (b.grows.keeps.word x w.name w.name_is)) (k.typ m (subst_ty es w.ty) b.stands)
      ∙ ap some (sym i))

  -- a constant
  pub inst_const : (x as₁ m : ℕ) (w : ViewConstant s.contents x as₁ u)
      → Made (nodes_tys (subst_tys es w.args)) s t (λ c k. c.types k ≡ some (subst_tys es w.args)) m
      → (r : Option ℕ) (e : NoRoom) → Builds 1 t v (IsConst x m) r
      → Rebuilds room (nodes_tm u) (nodes_tm (F.leaf depth u)) s v (λ c n. c.term n ≡ some (F.leaf depth u)) (ok_or r e)
  inst_const x as₁ m w b r e d =
      let i : F.leaf depth u ≡ const w.name (subst_tys es w.args) = ap (λ (G : Change). G.leaf depth u) change ∙ ap (inst_tm es) w.is in
      over_part (IsConst x m) room (nodes_tm u) (nodes_tys (subst_tys es w.args)) (F.leaf depth u) (ap nodes_tm i) b r e d
      (λ n g p.
      let k = g.keeps in
      p w.name (subst_tys es w.args) (k.word x w.name (b.grows.keeps.word x w.name w.name_is)) (k.types m (subst_tys es w.args) b.stands)
      ∙ ap some (sym i))
