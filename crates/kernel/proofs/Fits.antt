-- Which sequent a rule of equality finds where it fits.
use Rattle.std.proofs.Common.{◌≡◌, true, not, ◌&&◌, [], refl}
use mathlib.Core.Option.{some}
use Rattle.hol.specs.Base.{Word, any}
use Rattle.hol.specs.Syntax.{Ty, Tm, Seq, Arrow, app, same_ty, same_tm, arrow, equal, fun, abstract, open_at, free_in}
use Rattle.hol.specs.Theory.{Theory, ok_ty, type_of}
use Rattle.hol.specs.Kernel.{App, app_of, Lam, lam_of, Sides, sides, union, seq, k_refl, k_trans, k_use, k_lam, k_beta}

pub refl_fits : (th : Theory) (u : Tm) {a : Ty} → type_of th u ≡ some a → k_refl th u ≡ some (seq [] (equal a u u))
refl_fits th u e = rw e refl

pub trans_fits : (p q : Seq) (l r : Sides) → sides p.concl ≡ some l → sides q.concl ≡ some r → (same_ty l.ty r.ty && same_tm l.right r.left) ≡ true
    → k_trans p q ≡ some (seq (union p.hyps q.hyps) (equal l.ty l.left r.right))
trans_fits p q l r e f t = rw e (rw f (rw t refl))

pub use_fits : (p q : Seq) (l r : Sides) (f : Arrow) → sides p.concl ≡ some l → sides q.concl ≡ some r → arrow l.ty ≡ some f → same_ty f.dom r.ty ≡ true
    → k_use p q ≡ some (seq (union p.hyps q.hyps) (equal f.cod (app l.left r.left) (app l.right r.right)))
use_fits p q l r f d e h t = rw d (rw e (rw h (rw t refl)))

pub beta_fits : (th : Theory) (u : Tm) {b : Ty} (w : App) (f : Lam) → type_of th u ≡ some b → app_of u ≡ some w → lam_of w.func ≡ some f
    → k_beta th u ≡ some (seq [] (equal b u (open_at 0 w.arg f.body)))
beta_fits th u w f e h k = rw e (rw h (rw k refl))

pub lam-fits : (th : Theory) (x : Word) (a : Ty) (p : Seq) (l : Sides) → sides p.concl ≡ some l → ok_ty th a ≡ true → not (any (free_in x a) p.hyps) ≡ true
    → k_lam th x a p ≡ some (seq p.hyps (equal (fun a l.ty) (abstract x a l.left) (abstract x a l.right)))
lam-fits th x a p l e o f = rw e (rw o (rw f refl))
