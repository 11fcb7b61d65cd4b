-- What can be derived has type bool, and so has what it assumes.
use Rattle.std.proofs.Common.{◌≡◌, true, List, [], ◌∷◌, ◌++◌, map, sym, refl, inl, inr}
use Rattle.hol.specs.Base.{all}
use Rattle.hol.specs.Syntax.{Tm, app, lam, same_tm, bool, inst_tm, subst_tm}
use Rattle.hol.specs.Theory.{Theory, has_type}
use Rattle.hol.specs.Kernel.{remove}
use Rattle.hol.specs.Rules.{Derives, r_refl, r_trans, r_use, r_lam, r_beta, r_assume, r_eqmp, r_anti, r_inst, r_types, r_eta, r_some, r_unfold, r_known, r_more}
use Rattle.hol.specs.Says.{Wf, Typed}
use Rattle.hol.proofs.Tools.{◌>>=◌, decided, both, and_both}
use Rattle.hol.proofs.Typing.{Has, has_bvar, has_const, has_app, has_lam, has, type_is, of_type, is_of_type, app-parts, lam-parts, fun-dom, fun-cod, choice_has, equal_has, equal-parts}
use Rattle.hol.proofs.TypeSubst.{inst_has}
use Rattle.hol.proofs.Contexts.{longer_any, has_longer, outermost_only, open_has, abstract_has, subst_has}
use Rattle.hol.proofs.OkTypes.{fun_ok, dom_ok, type_ok}
use Rattle.hol.proofs.Declarations.{unfolded_has, axiom_has}

-- a list of terms of type bool
pub data Props (th : Theory) : List Tm → Type 0 where
  props_nil : Props th []
  props_cons : {h : Tm} {hs : List Tm} → Has th [] h bool → Props th hs → Props th (h ∷ hs)

pub props : (th : Theory) (hs : List Tm) → all (λ h. has_type th h bool) hs ≡ true → Props th hs
props th [] e = props_nil
props th (h ∷ hs) e = props_cons (of_type th h bool (both _ _ e).0) (props th hs (both _ _ e).1)

pub all_props : {th : Theory} {hs : List Tm} → Props th hs → all (λ h. has_type th h bool) hs ≡ true
all_props props_nil = refl
all_props (props_cons h hs) = and_both (is_of_type h) (all_props hs)

pub props_append : {th : Theory} {hs gs : List Tm} → Props th hs → Props th gs → Props th (hs ++ gs)
props_append props_nil q = q
props_append (props_cons h hs) q = props_cons h (props_append hs q)

pub props_remove : {th : Theory} {hs : List Tm} (t : Tm) → Props th hs → Props th (remove t hs)
props_remove t props_nil = props_nil
props_remove t (props_cons {h = h} p hs) =
    elim (decided (same_tm t h)) [ inl e ↦ rw e (props_remove t hs) | inr e ↦ rw e (props_cons p (props_remove t hs)) ]

pub props_map : {th : Theory} {hs : List Tm} (f : Tm → Tm) → ((t : Tm) → Has th [] t bool → Has th [] (f t) bool)
    → Props th hs → Props th (map f hs)
props_map f keeps props_nil = props_nil
props_map f keeps (props_cons {h = h} p hs) = props_cons (keeps h p) (props_map f keeps hs)

-- a sequent whose terms have type bool
pub record SeqHas (th : Theory) (hs : List Tm) (t : Tm) : Type 0 where
  pub hyps : Props th hs
  pub concl : Has th [] t bool

seq_of : {th : Theory} {hs : List Tm} {t : Tm} → Props th hs → Has th [] t bool → SeqHas th hs t
seq_of hs t = record { hyps = hs; concl = t }

pub seq_has : {th : Theory} {hs : List Tm} {t : Tm} → Wf th → Derives th hs t → SeqHas th hs t
seq_has {th} w (r_refl {t = t} e) = do
  t_has ← has th [] t e
  seq_of props_nil (equal_has (type_ok w t_has) t_has t_has)
seq_has w (r_trans p q) = do
  s ← seq_has w p
  r ← seq_has w q
  e ← equal-parts s.concl
  f ← equal-parts r.concl
  seq_of (props_append s.hyps r.hyps) (equal_has e.ok e.left f.right)
seq_has w (r_use p q) = do
  s ← seq_has w p
  r ← seq_has w q
  e ← equal-parts s.concl
  f ← equal-parts r.concl
  l ← has_app e.left f.left
  seq_of (props_append s.hyps r.hyps) (equal_has (type_ok w l) l (has_app e.right f.right))
seq_has {th} w (r_lam {a = a} {b = b} x o n p) = do
  s ← seq_has w p
  e ← equal-parts s.concl
  seq_of s.hyps (equal_has (fun_ok th a b o e.ok) (abstract_has x o e.left) (abstract_has x o e.right))
seq_has {th} w (r_beta {a = a} {t = t} {s = s} e) = do
  t_has ← has th [] (app (lam a t) s) e
  p ← app-parts t_has
  f ← lam-parts p.func
  o_has ← open_has outermost_only (rw (fun-dom f.is) at p.arg) (rw (sym (fun-cod f.is)) at f.body)
  seq_of props_nil (equal_has (type_ok w t_has) t_has o_has)
seq_has {th} w (r_assume {t = t} e) = do
  t_has ← has th [] t e
  seq_of (props_cons t_has props_nil) t_has
seq_has w (r_eqmp p q) = do
  s ← seq_has w p
  r ← seq_has w q
  seq_of (props_append s.hyps r.hyps) (equal-parts s.concl).right
seq_has w (r_anti {s = s} {t = t} p q) = do
  l ← seq_has w p
  r ← seq_has w q
  seq_of (props_append (props_remove t l.hyps) (props_remove s r.hyps)) (equal_has refl l.concl r.concl)
seq_has w (r_inst es o p) = do
  s ← seq_has w p
  seq_of (props_map (subst_tm es) (λ t h. subst_has es o h) s.hyps) (subst_has es o s.concl)
seq_has w (r_types es o p) = do
  s ← seq_has w p
  seq_of (props_map (inst_tm es) (λ t h. inst_has es o h) s.hyps) (inst_has es o s.concl)
seq_has {th} w (r_eta {t = t} {a = a} {b = b} e) = do
  t_has ← has th [] t e
  a_ok ← dom_ok th a b (type_ok w t_has)
  seq_of props_nil (equal_has (type_ok w t_has) (has_lam a_ok (has_app (has_longer longer_any t_has) (has_bvar refl))) t_has)
seq_has {th} w (r_some {p = p} {x = x} {a = a} e f) = do
  x_has ← has th [] x e
  p_has ← has th [] p f
  c_has ← choice_has (type_ok w x_has)
  seq_of (props_cons (has_app p_has x_has) props_nil) (has_app p_has (has_app c_has p_has))
seq_has w (r_unfold as₁ d e) = do
  c_has ← has_const e
  seq_of props_nil (equal_has (type_ok w c_has) c_has (unfolded_has as₁ w d e))
seq_has w (r_known d) = seq_of props_nil (axiom_has w d)
seq_has {th} w (r_more {gs = gs} i o p) = seq_of (props th gs o) (seq_has w p).concl

pub derivations_typed : Typed
derivations_typed th hs t w d = do
  s ← seq_has w d
  (type_is s.concl, all_props s.hyps)
