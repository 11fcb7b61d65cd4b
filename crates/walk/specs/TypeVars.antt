-- Type variables gathered on a stack of names that the caller keeps.
use Rattle.std.specs.Prelude.{◌≡◌, ℕ, ◌+◌, ◌<◌, ◌⊎◌, List, ◌++◌, reverse, Result}
use Rattle.hol.specs.Base.{Word}
use Rattle.hol.specs.Syntax.{Tm, fvar, bvar, const, app, lam, tyvars_ty, tyvars_tys}
use Rattle.store.specs.Measures.{nodes_ty, nodes_tys}
use Rattle.store.specs.State.{Contents}
use Rattle.lent.specs.Answers.{Answers}
use Rattle.lent.specs.Piles.{Pile}
use Rattle.lent.specs.declared.NoRoom.{NoRoom}
use Rattle.walk.specs.Standing.{Names}

-- some names were put on top of p, which is as it was, holds as many, and is a stack of the same words
pub record Adds (p q : Pile) : Type 0 where
  pub added : List ℕ
  pub held : q.held ≡ added ++ p.held
  pub capacity : q.capacity ≡ p.capacity
  pub name : q.name ≡ p.name

-- what is on q stands for the names ws, the first lowest; or there is no answer, since room was short, and q is p
abbrev pub Gathers : {X : Type 0} → Type 0 → Contents → List Word → Pile → Pile → Result X NoRoom → Type 0
Gathers short c ws p q r = Answers ((q ≡ p) × short) (λ _. Names c (reverse q.held) ws) r

-- what is short: words of the stack, or places for names
abbrev pub Short : ℕ → ℕ → ℕ → Type 0
Short room places need = (room < need) ⊎ (places < need)

-- of a term's type variables those that stand in its own node: in the type of a variable or a λ, in the types of a constant
abbrev pub own_tyvars : Tm → List Word → List Word
own_tyvars (fvar x a) ws = tyvars_ty a ws
own_tyvars (bvar k) ws = ws
own_tyvars (const c as₁) ws = tyvars_tys as₁ ws
own_tyvars (app f x) ws = ws
own_tyvars (lam a t) ws = tyvars_ty a ws

-- the nodes of these types, and one for a list of them
abbrev pub own_nodes : Tm → ℕ
own_nodes (fvar x a) = nodes_ty a
own_nodes (bvar k) = 0
own_nodes (const c as₁) = 1 + nodes_tys as₁
own_nodes (app f x) = 0
own_nodes (lam a t) = nodes_ty a
