-- Going through lists of types while all are ok: the first type of a list is opened, and the rest is left for later.
use Rattle.std.proofs.Common.{◌≡◌, ℕ, ◌+◌, ◌<◌, ◌≤◌, Bool, true, false, ◌&&◌, List, [], ◌∷◌, length, Some, Ok, Err, Result, sym, refl, ap, ◌∙◌, arith}
use mathlib.Core.Option.{some}
use Rattle.lent.specs.Answers.{Answers}
use Rattle.lent.specs.declared.NoRoom.{NoRoom}
use Rattle.hol.specs.Syntax.{Ty, Tys, tnil}
use Rattle.hol.specs.Theory.{Theory, ok_tys}
use Rattle.hol.proofs.Tools.{clash}
use Rattle.store.specs.State.{Contents, Keeps}
use Rattle.store.specs.Views.{TypeSays}
use Rattle.store.specs.declared.view.TypeView.{TypeView}
use Rattle.store.specs.declared.view.TypeView.TheVariants.{Variable, Named}
use Rattle.lent.specs.Piles.{onto}
use Rattle.walk.specs.Firsts.{First, behind}
use Rattle.walk.specs.Standing.{more}
use Rattle.walk.proofs.TypeLists.{size_tys, size_positive}
use Rattle.walk.proofs.Pending.{Turn, Pending, run, load, newest, turned, falls, words_fit, decides, kept, kept-load}
use Rattle.typing.specs.Heads.{head_ok}

-- ok so far, and then
abbrev pub passing : Theory → Tys → Bool → Bool
passing th bs s = s && ok_tys th bs

-- an answer that says more, refused for less
pub answers_for : {X S T : Type 0} {P Q : X → Type 0} (r : Result X NoRoom) → (S → T) → ((x : X) → P x → Q x) → Answers S P r → Answers T Q r
answers_for (Ok x) f g h = g x h
answers_for (Err e) f g h = f h

-- once decided it stays so
pub run-refused : (th : Theory) (bs : List Tys) → run (passing th) bs false ≡ false
run-refused th [] = refl
run-refused th (b ∷ bs) = run-refused th bs

-- a list whose first type is not ok is not
refused : (c : Contents) (th : Theory) (bs : Tys) (v : TypeView) {r : ℕ} (h : First c v r bs) → head_ok th h.first ≡ false → passing th bs true ≡ false
refused c th bs (Variable x) h f = clash (ap (head_ok th) h.says.is) f
refused c th bs (Named x as₁) h f = let k = sym (ap (head_ok th) h.says.is) ∙ f in ap (ok_tys th) (rw h.says.is at h.is) ∙ rw k

opened : (c : Contents) (th : Theory) (bs : Tys) (v : TypeView) {r : ℕ} (h : First c v r bs) → head_ok th h.first ≡ true
    → Turn c.types (passing th) size_tys bs (behind v r) true true 0 0
opened c th bs (Variable x) h t =
    let e = rw h.says.is at h.is in
    record { items = h.rest ∷ []; stand = λ i. more h.rest_is i; does = ap (ok_tys th) e; rises = omega arith; weighs = rw e (omega arith) }
opened c th bs (Named x as₁) h t =
    let k = sym (ap (head_ok th) h.says.is) ∙ t in
    let e = rw h.says.is at h.is in
    record {
      items = h.says.args ∷ h.rest ∷ [];
      stand = λ i. more h.says.args_are (more h.rest_is i);
      does = ap (ok_tys th) e ∙ rw k;
      rises = omega arith;
      weighs = rw e (omega arith);
    }

-- the newest word n stands for a list of types
module _ (c : Contents) (th : Theory) {goal : Bool} {bound : ℕ} {ws ns : List ℕ} {n : ℕ}
    (p : Pending c.types (passing th) size_tys goal bound ws true 0) (q : ws ≡ n ∷ ns) where
  -- the empty one
  module _ (says : (bs : Tys) → c.types n ≡ some bs → bs ≡ tnil) where
    nothing : (bs : Tys) → c.types n ≡ some bs → Turn c.types (passing th) size_tys bs [] true true 0 0
    nothing bs e = record {
      items = [];
      stand = λ i. i;
      does = ap (ok_tys th) (says bs e);
      rises = omega arith;
      weighs = rw (says bs e) (omega arith);
    }

    pub empty_turned : Pending c.types (passing th) size_tys goal bound ns true 0
    empty_turned = let (bs, e) = newest p q in turned p q bs e (nothing bs e) refl

    pub empty-falls : load c.types size_tys ns < load c.types size_tys ws
    empty-falls = let (bs, e) = newest p q in falls p q bs e (nothing bs e) refl

  -- one that begins with v; b says whether its first type is ok
  module _ (v : TypeView) (r : ℕ) (says : (bs : Tys) → c.types n ≡ some bs → First c v r bs)
      {b : Bool} (tells : (a : Ty) → TypeSays c a (Some v) → b ≡ head_ok th a) where
    pub shown : (a : Ty) × TypeSays c a (Some v)
    shown = let (bs, e) = newest p q in let h = says bs e in (h.first, h.says)

    pub not_ok : b ≡ false → false ≡ goal
    not_ok f =
        let (bs, e) = newest p q in
        let h = says bs e in
        decides p q bs e false (refused c th bs v h (sym (tells h.first h.says) ∙ f)) (run-refused th)

    module _ (t : b ≡ true) where
      turn : (bs : Tys) (e : c.types n ≡ some bs) → Turn c.types (passing th) size_tys bs (behind v r) true true 0 0
      turn bs e = let h = says bs e in opened c th bs v h (sym (tells h.first h.says) ∙ t)

      pub list-fits : length ns + length (behind v r) ≤ bound
      list-fits = let (bs, e) = newest p q in let l = words_fit p q bs e (turn bs e) size_positive in omega arith

      module _ {d : Contents} (k : Keeps c d) {vs : List ℕ} (z : vs ≡ onto (behind v r) ns) where
        pub list_turned : Pending d.types (passing th) size_tys goal bound vs true 0
        list_turned = let (bs, e) = newest p q in kept k.types (turned p q bs e (turn bs e) z)

        pub list-falls : load d.types size_tys vs < load c.types size_tys ws
        list-falls = let (bs, e) = newest p q in rw (kept-load k.types (turned p q bs e (turn bs e) z)) (falls p q bs e (turn bs e) z)
