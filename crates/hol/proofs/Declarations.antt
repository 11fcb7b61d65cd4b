-- What is known of a definition, an axiom or a theorem that was declared in a well-formed theory.
use Rattle.std.proofs.Common.{◌≡◌, true, false, not, [], ◌∷◌, sym, ◌∙◌, arith}
use mathlib.Core.Option.{some}
use Rattle.hol.specs.Base.{is_some, all, Word, among}
use Rattle.hol.specs.Syntax.{Ty, Tys, Tm, bool, inst_tm, tyvars_ty, tyvars_tm, zip, closed, Seq}
use Rattle.hol.specs.Theory.{d_const, d_def, d_axiom, d_thm, Theory, Declared, const_ty, const_at, has_type}
use Rattle.hol.specs.Rules.{Derives}
use Rattle.hol.specs.Says.{Wf}
use Rattle.hol.proofs.Tools.{◌>>=◌, both, not_true, some_same}
use Rattle.hol.proofs.Equality.{word_refl}
use Rattle.hol.proofs.Typing.{Has, of_type}
use Rattle.hol.proofs.Growth.{has_grows, derives_grows, since, from_before}
use Rattle.hol.proofs.TypeSubst.{zip_ok, const_is, inst_has}

-- DEFINITIONS: the constant has its type, and so has its term, which was closed and had no type variables but those of the type
pub record Defined (th : Theory) (c : Word) (a : Ty) (t : Tm) : Type 0 where
  pub found : const_ty th c ≡ some a
  pub body : Has th [] t a
  pub no_free : closed t ≡ true
  pub tyvars : all (λ x. among x (tyvars_ty a [])) (tyvars_tm t []) ≡ true

-- a name that is not there yet has the type with which it is declared
new_const : (th : Theory) (c : Word) (a : Ty) → is_some (const_ty th c) ≡ false → const_ty (d_const c a ∷ th) c ≡ some a
new_const th c a n = grind (arith, word_refl c)

pub defined : {th : Theory} {c : Word} {a : Ty} {t : Tm} → Wf th → Declared th (d_def c a t) → Defined th c a t
defined {th} {c} {a} {t} w d = do
  s ← since w d
  (new, rest) ← both (not (is_some (const_ty s.before c))) _ s.admitted
  (t_has, rest') ← both (has_type s.before t a) _ rest
  (t_closed, vars) ← both (closed t) _ rest'
  (record {
    found = s.grows.consts c (new_const s.before c a (not_true _ new));
    body = has_grows (from_before s) (of_type s.before t a t_has);
    no_free = t_closed;
    tyvars = vars;
  })

-- the term of a definition at types for the type variables has the type of the constant at these
pub unfolded_has : {th : Theory} {c : Word} {a b : Ty} {t : Tm} (as₁ : Tys) → Wf th → Declared th (d_def c a t)
    → const_at th c as₁ ≡ some b
    → Has th [] (inst_tm (zip (tyvars_ty a []) as₁) t) b
unfolded_has {th} {c} {a} {b} {t} as₁ w d e = do
  k ← const_is th c as₁ e
  f ← defined w d
  a_is ← some_same (sym k.found ∙ f.found)
  b_is ← k.is
  (rw (b_is, a_is) (inst_has (zip (tyvars_ty a []) as₁) (zip_ok th (tyvars_ty a []) as₁ k.ok) f.body))

-- AXIOMS AND THEOREMS
pub axiom_has : {th : Theory} {v : Word} {t : Tm} → Wf th → Declared th (d_axiom v t) → Has th [] t bool
axiom_has {t = t} w d = do
  s ← since w d
  has_grows (from_before s) (of_type s.before t bool (both _ _ s.admitted).1)

pub theorem_derives : {th : Theory} {v : Word} {s : Seq} → Wf th → Declared th (d_thm v s) → Derives th s.hyps s.concl
theorem_derives w d = do
  s ← since w d
  derives_grows (from_before s) s.justified
