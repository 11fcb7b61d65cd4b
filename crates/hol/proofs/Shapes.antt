-- What a term is where its shape was recognised, and what was declared where a name was found.
use Rattle.std.proofs.Common.{◌≡◌, [], ◌∷◌, inl, inr}
use mathlib.Core.Option.{some}
use Rattle.hol.specs.Base.{Word, same_word}
use Rattle.hol.specs.Syntax.{Ty, tnil, tcons, Tm, fvar, bvar, const, app, lam, w_eq, one, equal, Seq}
use Rattle.hol.specs.Theory.{Decl, d_type, d_const, d_def, d_axiom, d_thm, Theory, Declared, newest, older, known}
use Rattle.hol.specs.Kernel.{App, app_of, Lam, lam_of, eq_of, Sides, sides, Definition, find_def, seq}
use Rattle.hol.proofs.Tools.{◌>>=◌, decided, some_same, none_some, bound, guarded}
use Rattle.hol.proofs.Equality.{word_eq}

-- TERMS
pub app_is : (t : Tm) {u : App} → app_of t ≡ some u → t ≡ app u.func u.arg
app_is (fvar x a) e = none_some e
app_is (bvar n) e = none_some e
app_is (const c as₁) e = none_some e
app_is (app f x) e = rw (← some_same e)
app_is (lam a t) e = none_some e

pub lam_is : (t : Tm) {u : Lam} → lam_of t ≡ some u → t ≡ lam u.ty u.body
lam_is (fvar x a) e = none_some e
lam_is (bvar n) e = none_some e
lam_is (const c as₁) e = none_some e
lam_is (app f x) e = none_some e
lam_is (lam a t) e = rw (← some_same e)

pub eq_const_is : (t : Tm) {a : Ty} → eq_of t ≡ some a → t ≡ const w_eq (one a)
eq_const_is (fvar x a) e = none_some e
eq_const_is (bvar n) e = none_some e
eq_const_is (const c tnil) e = none_some e
eq_const_is (const c (tcons a tnil)) e = do
  (n, s) ← guarded _ _ e
  rw (word_eq c w_eq n, some_same s)
eq_const_is (const c (tcons a (tcons b bs))) e = none_some e
eq_const_is (app f x) e = none_some e
eq_const_is (lam a t) e = none_some e

pub sides_are : (t : Tm) {s : Sides} → sides t ≡ some s → t ≡ equal s.ty s.left s.right
sides_are t e = do
  (u, t_is, e₁) ← bound (app_of t) _ e
  (v, f_is, e₂) ← bound (app_of u.func) _ e₁
  (a, c_is, s) ← bound (eq_of v.func) _ e₂
  rw (← some_same s) (cc (app_is t t_is, app_is u.func f_is, eq_const_is v.func c_is))

-- DECLARATIONS
-- a sequent that can be used under a name is an axiom or a theorem
pub data Known (th : Theory) : Seq → Type 0 where
  known_axiom : {v : Word} {t : Tm} → Declared th (d_axiom v t) → Known th (seq [] t)
  known_thm : {v : Word} {s : Seq} → Declared th (d_thm v s) → Known th s

known-older : {th : Theory} {p : Seq} (d : Decl) → Known th p → Known (d ∷ th) p
known-older d (known_axiom i) = known_axiom (older i)
known-older d (known_thm i) = known_thm (older i)

pub known_is : (th : Theory) (w : Word) {p : Seq} → known th w ≡ some p → Known th p
known_is [] w e = none_some e
known_is (d_type c ∷ th) w e = known-older (d_type c) (known_is th w e)
known_is (d_const c a ∷ th) w e = known-older (d_const c a) (known_is th w e)
known_is (d_def c a t ∷ th) w e = known-older (d_def c a t) (known_is th w e)
known_is (d_axiom v t ∷ th) w e = elim (decided (same_word w v)) [
  | inl s ↦ rw (← some_same (rw s at e)) (known_axiom newest)
  | inr s ↦ known-older (d_axiom v t) (known_is th w (rw s at e))
]
known_is (d_thm v q ∷ th) w e = elim (decided (same_word w v)) [
  | inl s ↦ rw (← some_same (rw s at e)) (known_thm newest)
  | inr s ↦ known-older (d_thm v q) (known_is th w (rw s at e))
]

pub find_def_is : (th : Theory) (c : Word) {d : Definition} → find_def th c ≡ some d → Declared th (d_def c d.ty d.body)
find_def_is [] c e = none_some e
find_def_is (d_type v ∷ th) c e = older (find_def_is th c e)
find_def_is (d_const v a ∷ th) c e = older (find_def_is th c e)
find_def_is (d_def v a t ∷ th) c e = elim (decided (same_word c v)) [
  | inl s ↦ rw (← some_same (rw s at e), word_eq c v s) newest
  | inr s ↦ older (find_def_is th c (rw s at e))
]
find_def_is (d_axiom v t ∷ th) c e = older (find_def_is th c e)
find_def_is (d_thm v s ∷ th) c e = older (find_def_is th c e)
