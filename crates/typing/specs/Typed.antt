-- A type that was found by building, or that there is none; and what was short where there is no answer.
use Rattle.std.specs.Prelude.{◌≡◌, ℕ, ◌*◌, ◌<◌, ◌⊎◌, [], length, Option, ◌==◌}
use Rattle.std.proofs.Math.Option.{some}
use Rattle.std.proofs.Math.Option as maybe
use Rattle.hol.specs.Base.{Word, option, guard}
use Rattle.hol.specs.Syntax.{Ty, Tys, count_tys, tyvars_ty, subst_ty, zip}
use Rattle.hol.specs.Theory.{Theory, const_ty}
use Rattle.store.specs.Measures.{nodes_ty}
use Rattle.store.specs.State.{State, Grows}
use Rattle.signature.specs.Finds.{Finds}

-- the nodes of a type that is there
abbrev pub nodes_of : maybe.Option Ty → ℕ
nodes_of o = option o 0 nodes_ty

-- for at most `cost` nodes: a number that stands for the type o; none where there is none
pub record Typed (cost : ℕ) (s t : State) (o : maybe.Option Ty) (r : Option ℕ) : Type 0 where
  pub grows : Grows cost s t
  pub finds : Finds (λ a k. t.contents.typ k ≡ some a) o r

-- Fewer than four words of the stack, or of scratch, for each of `need` nodes; or fewer nodes are left than `cost`.
abbrev pub Tight : (room scratch need left cost : ℕ) → Type 0
Tight room scratch need left cost = ((room < 4 * need) ⊎ (scratch < 4 * need)) ⊎ (left < cost)

-- the nodes of a constant's declared type
abbrev pub declared : Theory → Word → ℕ
declared th w = nodes_of (const_ty th w)

-- the type b with the types bs for its type variables, if they are as many
abbrev pub instance : Ty → Tys → maybe.Option Ty
instance b bs = guard (count_tys bs == length (tyvars_ty b [])) (some (subst_ty (zip (tyvars_ty b []) bs) b))
