-- Gathering type variables by going through a term: first those in its own node, then those of the terms right below.
use Rattle.std.proofs.Common.{◌≡◌, ℕ, ◌+◌, ◌<◌, ◌≤◌, List, [], ◌∷◌, length, reverse, Some, sym, ap, ◌∙◌, arith}
use mathlib.Core.Option.{some}
use Rattle.hol.specs.Base.{Word}
use Rattle.hol.specs.Syntax.{Tm, fvar, bvar, const, app, lam, tyvars_tm}
use Rattle.store.specs.Measures.{nodes_tm}
use Rattle.store.specs.State.{Contents, Keeps}
use Rattle.store.specs.Views.{TermSays}
use Rattle.store.specs.declared.view.TermView.{TermView}
use Rattle.store.specs.declared.view.TermView.TheVariants.{Free, Bound, Constant, Apply, Lambda}
use Rattle.lent.specs.Piles.{Pile, onto}
use Rattle.walk.specs.Below.{below}
use Rattle.walk.specs.Standing.{Names, more}
use Rattle.walk.specs.TypeVars.{Adds, own_tyvars, own_nodes}
use Rattle.walk.proofs.Gathering.{Gathering, names_length}
use Rattle.walk.proofs.Lengths.{type_length, types-length}
use Rattle.walk.proofs.NameLists.{adds_long}
use Rattle.walk.proofs.Passing.{nodes_positive}
use Rattle.walk.proofs.Pending.{Turn, load, newest, turned, falls, words_fit, room_for, kept, kept-load}

own_within : (t : Tm) → own_nodes t ≤ nodes_tm t
own_within (fvar x a) = omega arith
own_within (bvar k) = omega arith
own_within (const c bs) = omega arith
own_within (app f x) = omega arith
own_within (lam a t) = omega arith

gone : (c : Contents) {t : Tm} (v : TermView) → TermSays c t (Some v) → (s : List Word) → {used spent : ℕ} → used ≡ length s
    → spent ≡ length (own_tyvars t s) → used ≤ spent
    → Turn c.term tyvars_tm nodes_tm t (below v) s (own_tyvars t s) used spent
gone c (Free x a) h s e f l =
    let k = type_length h.ty s in
    let q = ap (λ u. own_tyvars u s) h.is in
    record {
      items = [];
      stand = λ i. i;
      does = ap (λ u. tyvars_tm u s) h.is ∙ sym q;
      rises = l;
      weighs = rw h.is (omega (arith, k, f ∙ ap length q));
    }
gone c (Bound k) h s e f l =
    let q = ap (λ u. own_tyvars u s) h in
    record {
      items = [];
      stand = λ i. i;
      does = ap (λ u. tyvars_tm u s) h ∙ sym q;
      rises = l;
      weighs = rw h (omega (arith, f ∙ ap length q));
    }
gone c (Constant x as₁) h s e f l =
    let k = types-length h.args s in
    let q = ap (λ u. own_tyvars u s) h.is in
    record {
      items = [];
      stand = λ i. i;
      does = ap (λ u. tyvars_tm u s) h.is ∙ sym q;
      rises = l;
      weighs = rw h.is (omega (arith, k, f ∙ ap length q));
    }
gone c (Apply g x) h s e f l =
    let q = ap (λ u. own_tyvars u s) h.is in
    record {
      items = h.func ∷ h.arg ∷ [];
      stand = λ i. more h.func_is (more h.arg_is i);
      does = ap (λ u. tyvars_tm u s) h.is ∙ ap (λ ws. tyvars_tm h.arg (tyvars_tm h.func ws)) (sym q);
      rises = l;
      weighs = rw h.is (omega (arith, f ∙ ap length q));
    }
gone c (Lambda a b) h s e f l =
    let k = type_length h.ty s in
    let q = ap (λ u. own_tyvars u s) h.is in
    record {
      items = h.body ∷ [];
      stand = λ i. more h.body_is i;
      does = ap (λ u. tyvars_tm u s) h.is ∙ ap (tyvars_tm h.body) (sym q);
      rises = l;
      weighs = rw h.is (omega (arith, k, f ∙ ap length q));
    }

-- the newest word n stands for a term with the view v
module _ (c : Contents) {goal : List Word} {bound : ℕ} {ws ns : List ℕ} {n : ℕ} (f : Pile)
    (h : Gathering c c.term tyvars_tm nodes_tm goal bound ws f.held) (q : ws ≡ n ∷ ns) (v : TermView)
    (says : (t : Tm) → c.term n ≡ some t → TermSays c t (Some v)) where
  -- it stands for one
  pub viewed : (t : Tm) × TermSays c t (Some v)
  viewed = let (t, e) = newest h.pending q in (t, says t e)

  -- room for the types of its own node
  pub own_fits : (t : Tm) × TermSays c t (Some v) × (length f.held + (own_nodes t + length ns) ≤ bound)
  own_fits =
      let (t, e) = newest h.pending q in
      (t, says t e, (let l = room_for h.pending q t e nodes_positive in let k = own_within t in omega arith))

  -- its own type variables were gathered
  module _ {d : Contents} (k : Keeps c d) {g : Pile} (a : Adds f g)
      (own : (t : Tm) → TermSays c t (Some v) → Names d (reverse g.held) (own_tyvars t h.gathered)) where
    turn : (t : Tm) → TermSays c t (Some v)
        → Turn c.term tyvars_tm nodes_tm t (below v) h.gathered (own_tyvars t h.gathered) (length f.held) (length g.held)
    turn t s = gone c v s h.gathered (sym (names_length c f.held h.names)) (sym (names_length d g.held (own t s))) (adds_long a)

    pub term_fits : length g.held + (length ns + length (below v)) ≤ bound
    term_fits = let (t, e) = newest h.pending q in words_fit h.pending q t e (turn t (says t e)) nodes_positive

    pub term_turned : {vs : List ℕ} → vs ≡ onto (below v) ns → Gathering d d.term tyvars_tm nodes_tm goal bound vs g.held
    term_turned b =
        let (t, e) = newest h.pending q in
        record {
          gathered = own_tyvars t h.gathered;
          names = own t (says t e);
          pending = kept k.term (turned h.pending q t e (turn t (says t e)) b);
        }

    pub term-falls : {vs : List ℕ} → vs ≡ onto (below v) ns → load d.term nodes_tm vs < load c.term nodes_tm ws
    term-falls b =
        let (t, e) = newest h.pending q in
        rw (kept-load k.term (turned h.pending q t e (turn t (says t e)) b))
        (falls h.pending q t e (turn t (says t e)) b)
