-- What typing a term builds is less than twice the term's size; and no constant's type is larger than the widest.
use Rattle.std.proofs.Common.{◌+◌, ◌*◌, ◌≤◌, max, cond, List, [], ◌∷◌, inl, inr, arith}
use mathlib.Core.Option.{Option, some, none}
use Rattle.hol.specs.Base.{Word, option, nth, same_word}
use Rattle.hol.specs.Syntax.{Ty, tyvar, tyapp, Tm, fvar, bvar, const, app, lam, w_eq, w_choice}
use Rattle.hol.specs.Theory.{Decl, Theory, Constant, const_of_decl, declared_const, const_at}
use Rattle.hol.proofs.Tools.{decided}
use Rattle.hol.specs.Weight.{size_ty, size_var, size_tm}
use Rattle.store.specs.Measures.{nodes_ty, nodes_tm}
use Rattle.store.proofs.Sizes.{nodes-size_ty}
use Rattle.typing.specs.Built.{types_built}
use Rattle.typing.specs.Machine.{widest}
use Rattle.typing.specs.Typed.{nodes_of, declared}

-- a constant or a variable
nodes-size_var : (o : Option Ty) → option o 0 nodes_ty + 1 ≤ 2 * size_var o
nodes-size_var none = omega arith
nodes-size_var (some a) = let h = nodes-size_ty a in omega arith

pub size_ty_positive : (a : Ty) → 1 ≤ size_ty a
size_ty_positive (tyvar w) = omega arith
size_ty_positive (tyapp c as₁) = omega arith

pub built-size : (th : Theory) (g : List Ty) (t : Tm) → types_built th g t + 1 ≤ 2 * size_tm th g t
built-size th g (fvar x a) = omega arith
built-size th g (bvar n) = let h = nodes-size_var (nth g n) in omega arith
built-size th g (const c as₁) = let h = nodes-size_var (const_at th c as₁) in omega arith
built-size th g (app f x) = let h = built-size th g f in let k = built-size th g x in omega arith
built-size th g (lam a t) = let h = size_ty_positive a in let k = built-size th (a ∷ g) t in omega arith

pub nodes_positive : (t : Tm) → 1 ≤ nodes_tm t
nodes_positive (fvar x a) = omega arith
nodes_positive (bvar k) = omega arith
nodes_positive (const c bs) = omega arith
nodes_positive (app f x) = omega arith
nodes_positive (lam a t) = omega arith

-- THE WIDEST TYPE OF A CONSTANT
widest_built_in : (th : Theory) → 9 ≤ widest th
widest_built_in [] = omega arith
widest_built_in (d ∷ th) = let h = widest_built_in th in omega arith

of_decl : (d : Decl) (th : Theory) (w : Word) → nodes_of (declared_const th w) ≤ widest th → nodes_of (declared_const (d ∷ th) w) ≤ widest (d ∷ th)
of_decl d th w h = go (const_of_decl d)
  where
    go : (o : Option Constant)
        → nodes_of (option o (declared_const th w) (λ k. cond (same_word w k.name) (some k.ty) (declared_const th w))) ≤ max (option o 0 (λ k. nodes_ty k.ty)) (widest th)
    go none = omega arith
    go (some k) = elim (decided (same_word w k.name)) [ inl t ↦ rw t (omega arith) | inr f ↦ rw f (omega arith) ]

widest-declared : (th : Theory) (w : Word) → nodes_of (declared_const th w) ≤ widest th
widest-declared [] w = omega arith
widest-declared (d ∷ th) w = of_decl d th w (widest-declared th w)

pub declared-fits : (th : Theory) (w : Word) → declared th w ≤ widest th
declared-fits th w =
    let h = widest_built_in th in
    let k = widest-declared th w in
    elim (decided (same_word w w_eq)) [
      | inl t ↦ rw t (omega arith)
      | inr f ↦ rw f (elim (decided (same_word w w_choice)) [ inl t ↦ rw t (omega arith) | inr g ↦ rw g k ])
    ]
