-- Gathering type variables by going through lists of types: the first type of a list is opened, and the rest is left for later.
use Rattle.std.proofs.Common.{◌≡◌, ℕ, ◌+◌, ◌<◌, ◌≤◌, List, [], ◌∷◌, length, reverse, sym, refl, ap, ◌∙◌, arith}
use mathlib.Core.Option.{some}
use Rattle.hol.specs.Base.{Word}
use Rattle.hol.specs.Syntax.{Tys, tnil, insert, tyvars_tys}
use Rattle.hol.proofs.Tools.{some_same}
use Rattle.store.specs.Measures.{nodes_tys}
use Rattle.store.specs.State.{Contents, Keeps}
use Rattle.store.specs.declared.view.TypeView.{TypeView}
use Rattle.store.specs.declared.view.TypeView.TheVariants.{Variable, Named}
use Rattle.lent.specs.Piles.{Pile, onto}
use Rattle.walk.specs.Firsts.{First, behind}
use Rattle.walk.specs.Standing.{Names, more}
use Rattle.walk.specs.TypeVars.{Adds}
use Rattle.walk.proofs.Lengths.{insert-length}
use Rattle.walk.proofs.NameLists.{adds_long}
use Rattle.walk.proofs.Pending.{Turn, Pending, load, newest, turned, falls, words_fit, room_for, kept, kept-load}
use Rattle.walk.proofs.Gathering.{Gathering, names_length}

-- a list's weight on the stack: itself, and its nodes
abbrev pub size_tys : Tys → ℕ
size_tys bs = 1 + nodes_tys bs

pub size_positive : (bs : Tys) → 0 < size_tys bs
size_positive bs = omega arith

-- the names once the first type is opened, and how many were added at most
abbrev after : (c : Contents) (bs : Tys) (v : TypeView) (r : ℕ) → First c v r bs → List Word → List Word
after c bs (Variable x) r h s = insert h.says.name s
after c bs (Named x as₁) r h s = s

abbrev gain : TypeView → ℕ
gain (Variable x) = 1
gain (Named x as₁) = 0

after-plain : (c : Contents) (bs : Tys) (v : TypeView) (r : ℕ) (h : First c v r bs) → ((x : ℕ) → v ≡ Variable x → ⊥)
    → (s : List Word) → after c bs v r h s ≡ s
after-plain c bs (Variable x) r h no_variable s = absurd (no_variable x refl)
after-plain c bs (Named x as₁) r h no_variable s = refl

opened : (c : Contents) (bs : Tys) (v : TypeView) (r : ℕ) (h : First c v r bs) (s : List Word) {used spent : ℕ} → used ≤ spent
    → spent ≤ used + gain v → Turn c.types tyvars_tys size_tys bs (behind v r) s (after c bs v r h s) used spent
opened c bs (Variable x) r h s l m =
    let e = rw h.says.is at h.is in
    record {
      items = h.rest ∷ [];
      stand = λ i. more h.rest_is i;
      does = ap (λ as₁. tyvars_tys as₁ s) e;
      rises = l;
      weighs = rw e (omega arith);
    }
opened c bs (Named x as₁) r h s l m =
    let e = rw h.says.is at h.is in
    record {
      items = h.says.args ∷ h.rest ∷ [];
      stand = λ i. more h.says.args_are (more h.rest_is i);
      does = ap (λ as₁. tyvars_tys as₁ s) e;
      rises = l;
      weighs = rw e (omega arith);
    }

-- the newest word n stands for a list of types
module _ (c : Contents) {goal : List Word} {bound : ℕ} {ws ns : List ℕ} {n : ℕ} {s : List Word} {used : ℕ}
    (p : Pending c.types tyvars_tys size_tys goal bound ws s used) (q : ws ≡ n ∷ ns) where
  -- the empty one
  module _ (says : (bs : Tys) → c.types n ≡ some bs → bs ≡ tnil) where
    nothing : (bs : Tys) → c.types n ≡ some bs → Turn c.types tyvars_tys size_tys bs [] s s used used
    nothing bs e = record {
      items = [];
      stand = λ i. i;
      does = ap (λ as₁. tyvars_tys as₁ s) (says bs e);
      rises = omega arith;
      weighs = rw (says bs e) (omega arith);
    }

    pub empty_turned : Pending c.types tyvars_tys size_tys goal bound ns s used
    empty_turned = let (bs, e) = newest p q in turned p q bs e (nothing bs e) refl

    pub empty-falls : load c.types size_tys ns < load c.types size_tys ws
    empty-falls = let (bs, e) = newest p q in falls p q bs e (nothing bs e) refl

  -- one that begins with v
  module _ (v : TypeView) (r : ℕ) (says : (bs : Tys) → c.types n ≡ some bs → First c v r bs) where
    pub list-fits : used + (length ns + length (behind v r)) ≤ bound
    list-fits = let (bs, e) = newest p q in words_fit p q bs e
        (opened c bs v r (says bs e) s {used = used} {spent = used} (omega arith) (omega arith)) size_positive

    pub plain_turned : ((x : ℕ) → v ≡ Variable x → ⊥) → {vs : List ℕ} → vs ≡ onto (behind v r) ns
        → Pending c.types tyvars_tys size_tys goal bound vs s used
    plain_turned no_variable b =
        let (bs, e) = newest p q in
        rw (after-plain c bs v r (says bs e) no_variable s) at
        (turned p q bs e (opened c bs v r (says bs e) s {used = used} {spent = used} (omega arith) (omega arith)) b)

    pub list-falls : {vs : List ℕ} → vs ≡ onto (behind v r) ns → load c.types size_tys vs < load c.types size_tys ws
    list-falls b = let (bs, e) = newest p q in falls p q bs e
        (opened c bs v r (says bs e) s {used = used} {spent = used} (omega arith) (omega arith)) b

  -- with a variable
  module _ {x r : ℕ} (says : (bs : Tys) → c.types n ≡ some bs → First c (Variable x) r bs) where
    pub variable_name : (w : Word) × (c.word x ≡ some w)
    variable_name = let (bs, e) = newest p q in let h = says bs e in (h.says.name, h.says.name_is)

    pub variable_fits : used < bound
    variable_fits = let (bs, e) = newest p q in let l = room_for p q bs e size_positive in omega arith

    pub variable_turned : (w : Word) → c.word x ≡ some w → {spent : ℕ} → used ≤ spent → spent ≤ used + 1 → {vs : List ℕ}
        → vs ≡ r ∷ ns
        → Pending c.types tyvars_tys size_tys goal bound vs (insert w s) spent
    variable_turned w i l m b =
        let (bs, e) = newest p q in
        let h = says bs e in
        rw (some_same (sym h.says.name_is ∙ i)) at (turned p q bs e (opened c bs (Variable x) r h s l m) b)

-- the newest word stands for a list that begins with a variable, whose name was inserted
module _ {c d : Contents} (k : Keeps c d) {goal : List Word} {bound : ℕ} {ws ns : List ℕ} {n : ℕ} (f : Pile)
    (h : Gathering c c.types tyvars_tys size_tys goal bound ws f.held) (q : ws ≡ n ∷ ns) {x r : ℕ}
    (says : (bs : Tys) → c.types n ≡ some bs → First c (Variable x) r bs)
    {vs : List ℕ} (b : vs ≡ r ∷ ns) where
  pub inserted_falls : load d.types size_tys vs < load c.types size_tys ws
  inserted_falls =
      let (w, i) = variable_name c h.pending q says in
      rw (kept-load k.types (variable_turned c h.pending q says w i {spent = length f.held} (omega arith) (omega arith) b))
      (list-falls c h.pending q (Variable x) r says b)

  pub inserted_turned : {g : Pile} → Adds f g → ((w : Word) → c.word x ≡ some w → Names d (reverse g.held) (insert w h.gathered))
      → Gathering d d.types tyvars_tys size_tys goal bound vs g.held
  inserted_turned {g} a put =
      let (w, i) = variable_name c h.pending q says in
      let y = names_length c f.held h.names in
      let z = names_length d g.held (put w i) in
      let u = insert-length w h.gathered in
      record {
        gathered = insert w h.gathered;
        names = put w i;
        pending = kept k.types (variable_turned c h.pending q says w i (adds_long a) (omega arith) b);
      }
