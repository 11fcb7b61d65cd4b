-- Opening, closing, substitution and type substitution are terms built anew.
use Rattle.std.specs.Prelude.{◌≡◌, ℕ, ◌+◌, Result, refl}
use Rattle.std.proofs.Common.{ap, ap₂}
use Rattle.std.proofs.Math.Option.{some}
use Rattle.hol.specs.Base.{Word}
use Rattle.hol.specs.Syntax.{Ty, Tm, fvar, bvar, const, app, lam, TySubst, inst_tm, subst_ty, open_at, close_at, Subst, subst_tm}
use Rattle.store.specs.Measures.{nodes_tm}
use Rattle.store.specs.State.{State}
use Rattle.lent.specs.declared.NoRoom.{NoRoom}
use Rattle.rebuild_types.specs.Rebuilds.{Rebuilds}
use Rattle.rebuild.specs.Rebuilt.{rebuilt, opening, closing, substituting, instantiating}

pub open_rebuilt : (s : Tm) (n : ℕ) (t : Tm) → rebuilt (opening s) n t ≡ open_at n s t
open_rebuilt s n (fvar x a) = refl
open_rebuilt s n (bvar k) = refl
open_rebuilt s n (const c as₁) = refl
open_rebuilt s n (app f x) = ap₂ {C = Tm} app (open_rebuilt s n f) (open_rebuilt s n x)
open_rebuilt s n (lam a t) = ap {B = Tm} (lam a) (open_rebuilt s (n + 1) t)

pub close_rebuilt : (y : Word) (b : Ty) (n : ℕ) (t : Tm) → rebuilt (closing y b) n t ≡ close_at n y b t
close_rebuilt y b n (fvar x a) = refl
close_rebuilt y b n (bvar k) = refl
close_rebuilt y b n (const c as₁) = refl
close_rebuilt y b n (app f x) = ap₂ {C = Tm} app (close_rebuilt y b n f) (close_rebuilt y b n x)
close_rebuilt y b n (lam a t) = ap {B = Tm} (lam a) (close_rebuilt y b (n + 1) t)

pub subst_rebuilt : (es : Subst) (n : ℕ) (t : Tm) → rebuilt (substituting es) n t ≡ subst_tm es t
subst_rebuilt es n (fvar x a) = refl
subst_rebuilt es n (bvar k) = refl
subst_rebuilt es n (const c as₁) = refl
subst_rebuilt es n (app f x) = ap₂ {C = Tm} app (subst_rebuilt es n f) (subst_rebuilt es n x)
subst_rebuilt es n (lam a t) = ap {B = Tm} (lam a) (subst_rebuilt es (n + 1) t)

pub inst_rebuilt : (es : TySubst) (n : ℕ) (t : Tm) → rebuilt (instantiating es) n t ≡ inst_tm es t
inst_rebuilt es n (fvar x a) = refl
inst_rebuilt es n (bvar k) = refl
inst_rebuilt es n (const c as₁) = refl
inst_rebuilt es n (app f x) = ap₂ {C = Tm} app (inst_rebuilt es n f) (inst_rebuilt es n x)
inst_rebuilt es n (lam a t) = ap {B = Tm} (lam (subst_ty es a)) (inst_rebuilt es (n + 1) t)

-- one term in place of an equal one, in what a call says
pub rebuilds_as : (room need : ℕ) (s t : State) (r : Result ℕ NoRoom) {x y : Tm} → x ≡ y
    → Rebuilds room need (nodes_tm x) s t (λ d n. d.term n ≡ some x) r → Rebuilds room need (nodes_tm y) s t (λ d n. d.term n ≡ some y) r
rebuilds_as room need s t r e h = rw e at h
