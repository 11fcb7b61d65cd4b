-- Whether a list has so many types: one after the other is left behind.
use Rattle.std.proofs.Common.{◌≡◌, ℕ, ◌+◌, ◌<◌, ap, arith}
use mathlib.Core.Option.{some}
use Rattle.hol.specs.Syntax.{Tys, tnil, count_tys}
use Rattle.store.specs.State.{Contents}
use Rattle.store.specs.Views.{ViewTypes}

-- `rest` stands for what follows the first n of the types bs
pub record Counting (c : Contents) (bs : Tys) (n rest : ℕ) : Type 0 where
  pub items : Tys
  pub is : c.types rest ≡ some items
  pub long : count_tys bs ≡ n + count_tys items

pub begin : {c : Contents} {bs : Tys} {list : ℕ} → c.types list ≡ some bs → Counting c bs 0 list
begin {bs = bs} e = record { items = bs; is = e; long = omega arith }

module _ {c : Contents} {bs : Tys} {n rest : ℕ} (k : Counting c bs n rest) where
  pub next : {a tail : ℕ} → ((ds : Tys) → c.types rest ≡ some ds → ViewTypes c a tail ds) → Counting c bs (n + 1) tail
  next says =
      let v = says k.items k.is in
      record { items = v.tail; is = v.tail_is; long = (let l = k.long in let e = ap count_tys v.is in omega arith) }

  pub over : ((ds : Tys) → c.types rest ≡ some ds → ds ≡ tnil) → count_tys bs ≡ n
  over says = let l = k.long in let e = ap count_tys (says k.items k.is) in omega arith

  pub not_over : {a tail : ℕ} → ((ds : Tys) → c.types rest ≡ some ds → ViewTypes c a tail ds) → n < count_tys bs
  not_over says = let v = says k.items k.is in let l = k.long in let e = ap count_tys v.is in omega arith
