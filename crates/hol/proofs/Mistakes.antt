-- Mistakes that provers have made, and that the definitions do not: each a small text, by computation.
use Rattle.std.proofs.Common.{◌≡◌, [], ◌∷◌, codes, refl}
use mathlib.Core.Option.{some}
use Rattle.hol.specs.Syntax.{Ty, tyvar, Tm, fvar, app, lam, bool, fun, equal}
use Rattle.hol.specs.Kernel.{seq}
use Rattle.hol.specs.Text.{judge}
use Rattle.hol.proofs.Cases.{refuses, brief, named_in}

abbrev 'a : Ty
'a = tyvar (codes "'a")

abbrev 'b : Ty
'b = tyvar (codes "'b")

abbrev x : Ty → Tm
x a = fvar (codes "x") a

abbrev y : Ty → Tm
y a = fvar (codes "y") a

abbrev p : Tm
p = fvar (codes "p") bool

abbrev q : Tm
q = fvar (codes "q") bool

abbrev r : Tm
r = fvar (codes "r") bool

-- Two variables of one name and different types are two: λ over x of type 'a leaves x of type 'b free.
two_of_one_name : named_in (judge (codes "(thm a (assume ($ ($ (! = 'b) (: x 'b)) (: x 'b))) (lam x 'a 0))")) (codes "a") ≡ some (seq (equal 'b (x 'b) (x 'b) ∷ []) (equal (fun 'a 'b) (lam 'a (x 'b)) (lam 'a (x 'b))))
two_of_one_name = refl

-- inst of x of type 'a leaves x of type 'b alone.
inst_by_type : named_in (judge (codes "(thm a (refl ($ (: f (-> 'b 'a)) (: x 'b))) (inst 0 (x 'a (: y 'a))))")) (codes "a") ≡ some (seq [] (equal 'a (app (fvar (codes "f") (fun 'b 'a)) (x 'b)) (app (fvar (codes "f") (fun 'b 'a)) (x 'b))))
inst_by_type = refl

-- Types are put in all at once: 'b for 'a and 'a for 'b exchanges the two.
types_at_once : named_in (judge (codes "(thm a (refl (: f (-> 'a 'b))) (types 0 ('a 'b) ('b 'a)))")) (codes "a") ≡ some (seq [] (equal (fun 'b 'a) (fvar (codes "f") (fun 'b 'a)) (fvar (codes "f") (fun 'b 'a))))
types_at_once = refl

-- Terms are, too.
terms_at_once : named_in (judge (codes "(thm a (refl ($ ($ (: f (-> 'a (-> 'a 'b))) (: x 'a)) (: y 'a))) (inst 0 (x 'a (: y 'a)) (y 'a (: x 'a))))")) (codes "a") ≡ some (seq [] (let t : Tm = app (app (fvar (codes "f") (fun 'a (fun 'a 'b))) (y 'a)) (x 'a) in equal 'b t t))
terms_at_once = refl

-- A definition does not use itself: its constant is not there yet.
def_of_itself : brief (judge (codes "(def c bool (! c))")) ≡ refuses 1 0
def_of_itself = refl

-- A free variable that is put in is not captured by a λ on the way.
no_capture : named_in (judge (codes "(thm a (refl (\\ y 'a (: x 'a))) (inst 0 (x 'a (: y 'a))))")) (codes "a") ≡ some (seq [] (equal (fun 'a 'a) (lam 'a (y 'a)) (lam 'a (y 'a))))
no_capture = refl

-- anti takes an assumption away only if it is the very term: x = x at 'b prints like x = x at 'a, and stays.
anti_looks_alike : named_in (judge (codes "(thm a (assume ($ ($ (! = 'b) (: x 'b)) (: x 'b))) (refl (: x 'a)) (anti 0 1))")) (codes "a") ≡ some (seq (equal 'b (x 'b) (x 'b) ∷ []) (equal bool (equal 'b (x 'b) (x 'b)) (equal 'a (x 'a) (x 'a))))
anti_looks_alike = refl

-- The very term goes.
anti_takes : named_in (judge (codes "(thm a (assume ($ ($ (! = 'a) (: x 'a)) (: x 'a))) (refl (: x 'a)) (anti 0 1))")) (codes "a") ≡ some (seq [] (equal bool (equal 'a (x 'a) (x 'a)) (equal 'a (x 'a) (x 'a))))
anti_takes = refl

-- Assumptions that become the same under inst stay once, where the last of them stood: with p for r, of p, q, r there is left q, p.
before_merge : named_in (judge (codes "(thm a (assume (: p bool)) (assume (: q bool)) (assume (: r bool)) (anti 0 1) (anti 3 2))")) (codes "a") ≡ some (seq (p ∷ q ∷ r ∷ []) (equal bool (equal bool p q) r))
before_merge = refl

inst_merges : named_in (judge (codes "(thm a (assume (: p bool)) (assume (: q bool)) (assume (: r bool)) (anti 0 1) (anti 3 2) (inst 4 (r bool (: p bool))))")) (codes "a") ≡ some (seq (q ∷ p ∷ []) (equal bool (equal bool p q) p))
inst_merges = refl

-- A name is taken once.
name_twice : brief (judge (codes "(const c bool) (const c bool)")) ≡ refuses 2 0
name_twice = refl

eq_taken : brief (judge (codes "(const = bool)")) ≡ refuses 1 0
eq_taken = refl
