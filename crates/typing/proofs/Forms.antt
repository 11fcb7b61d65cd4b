-- Function types: built from their two types, and used up by an application.
use Rattle.std.proofs.Common.{◌≡◌, ℕ, ◌<◌, Bool, true, false, Some, refl, arith}
use Rattle.std.specs.Bool.{then_some}
use mathlib.Core.Option.{Option as Found, some, none}
use Rattle.hol.specs.Syntax.{Ty, tnil, tcons, w_fun, fun, same_ty, arrow, Arrow}
use Rattle.hol.specs.Theory.{app_ty}
use Rattle.store.specs.State.{Contents, State}
use Rattle.store.specs.Builds.{Made, Full, IsTypes, IsTyapp}
use Rattle.store.proofs.Growth.{grows_on}
use Rattle.signature.specs.Finds.{Finds}
use Rattle.walk.specs.Parts.{Like, IsFunctionType}
use Rattle.walk.specs.declared.parts.FunctionType.{FunctionType}

-- the cells of the second and of both types, and then the type itself: a node each
pub third_full : {s t u v : State} {P Q : Contents → ℕ → Type 0} {i j : ℕ} → Made 1 s t P i → Made 1 t u Q j → Full 1 u v → s.left < 3
third_full m k h = let l = h.short in let g = m.grows.cost in let i = k.grows.cost in omega arith

pub built : {s t u v : State} {name a b empty second both n : ℕ} (c d : Ty) → s.contents.word name ≡ some w_fun
    → s.contents.typ a ≡ some c → s.contents.typ b ≡ some d → s.contents.types empty ≡ some tnil
    → Made 1 s t (IsTypes b empty) second → Made 1 t u (IsTypes a second) both → Made 1 u v (IsTyapp name both) n
    → Made 3 s v (λ e i. e.typ i ≡ some (fun c d)) n
built {name = name} {a = a} {b = b} {empty = empty} {second = second} {both = both} c d hn ha hb he m k h =
    let p = m.grows.keeps in
    let q = k.grows.keeps in
    let r = h.grows.keeps in
    let x = m.stands d tnil (p.typ b d hb) (p.types empty tnil he) in
    let y = k.stands c (tcons d tnil) (q.typ a c (p.typ a c ha)) (q.types second (tcons d tnil) x) in
    record {
      grows = grows_on (grows_on m.grows k.grows) h.grows;
      stands = h.stands w_fun (tcons c (tcons d tnil)) (r.word name w_fun (q.word name w_fun (p.word name w_fun hn))) (r.types both (tcons c (tcons d tnil)) y);
    }

-- AN APPLICATION of a function of type c to an argument of type d
pub record Fits (k : Contents) (c : Ty) (y : FunctionType) : Type 0 where
  pub parts : Arrow
  pub is : arrow c ≡ some parts
  pub stand : IsFunctionType k parts y

pub an_arrow : (k : Contents) (c : Ty) (y : FunctionType) → Like (IsFunctionType k) (arrow c) (Some y) → Fits k c y
an_arrow k c y h = of (arrow c) refl h
  where
    of : (o : Found Arrow) → arrow c ≡ o → Like (IsFunctionType k) o (Some y) → Fits k c y
    of none e l = absurd l
    of (some r) e l = record { parts = r; is = e; stand = l }

-- whether the argument's type is the one that the function takes
pub tested : (k l : Contents) (c d : Ty) (y : FunctionType) (f : Fits k c y) (b : Bool) → b ≡ same_ty f.parts.dom d
    → l.typ y.cod ≡ some f.parts.cod → Finds (λ e n. l.typ n ≡ some e) (app_ty (some c) (some d)) (then_some b y.cod)
tested k l c d y f true q e = record { what = f.parts.cod; is = rw (f.is, ← q); stands = e }
tested k l c d y f false q e = rw (f.is, ← q)
