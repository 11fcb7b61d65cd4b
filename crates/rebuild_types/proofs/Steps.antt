-- One lemma for each move of the machine that builds types anew.
use Rattle.std.proofs.Common.{◌≡◌, ℕ, ◌+◌, ◌<◌, ◌≤◌, List, ◌∷◌, length, Option, Some, None, MatchOption, sym, refl, ap, ◌∙◌, inl, inr, arith}
use mathlib.Core.Option.{some, none}
use Rattle.hol.specs.Base.{Word}
use Rattle.hol.specs.Syntax.{Ty, tyvar, tyapp, Tys, tnil, tcons, TySubst, find_ty, subst_ty, subst_tys}
use Rattle.store.specs.Measures.{nodes_ty, nodes_tys}
use Rattle.store.specs.State.{Contents, State, Grows, Stays}
use Rattle.store.specs.Builds.{Made, Full, IsTyapp, IsTypes}
use Rattle.store.specs.Views.{ViewVariable, ViewNamed, ViewTypes}
use Rattle.rebuild_types.specs.Entries.{Finds}
use Rattle.rebuild_types.specs.Codes.{code}
use Rattle.rebuild_types.specs.Machine.{Sort, Of, item, nodes_item, Is, Path, args_of, head_of, tail_of, plug, Holds, holds_root, holds_args, holds_head, holds_tail, Point, down, up, end, outcome, spent, At, at_type, at_types, at_up, at_end, Moved, Stuck}
use Rattle.rebuild_types.specs.declared.turn.Turn.{Turn}
use Rattle.rebuild_types.specs.declared.turn.Turn.TheVariants.{DownType, DownTypes, Up, End}
use Rattle.rebuild_types.specs.declared.turn.Wait.{Wait}
use Rattle.rebuild_types.specs.declared.turn.Wait.TheVariants.{Arguments, Head, Tail}
use Rattle.store.proofs.Growth.{grows_same}
use Rattle.rebuild_types.proofs.Stack.{holds_kept, held-length, done-fits, Top, top, top-args, top_head, top_tail}

-- what an entry or none says of a variable
found_type : (es : TySubst) (c : Contents) (w : Word) (m : ℕ) → Finds c (find_ty es w) (Some m)
    → c.typ m ≡ some (subst_ty es (tyvar w))
found_type es c w m (b, e, f) = rw e f

kept_type : (es : TySubst) (w : Word) → find_ty es w ≡ none → subst_ty es (tyvar w) ≡ tyvar w
kept_type es w e = rw e

one-node : (a : Ty) → 1 ≤ nodes_ty a
one-node (tyvar w) = omega arith
one-node (tyapp w as₁) = omega arith

module _ (es : TySubst) (s t : State) (ws : List ℕ) (n : ℕ) where
  -- a type that is done at once, with the number m
  done_type : (m : ℕ) {x : Point} → At s.contents ws (DownType n) x → Grows 0 s t
      → ((a : Ty) → s.contents.typ n ≡ some a → s.contents.typ m ≡ some (subst_ty es a)) → Moved es s t ws x (Up m)
  done_type m (at_type {a = a} {p = p} e h) g q = record {
    to = up p (subst_ty es a);
    at = at_up (g.keeps.typ m _ (q a e)) (holds_kept g.keeps h);
    outcome = refl;
    cost = 0;
    grows = g;
    spent = omega arith;
    weight = omega arith;
    moves = omega arith;
  }

  -- a variable: what an entry has for it, or itself where no entry is for it
  pub variable : (k : ℕ) (o : Option ℕ) (r : Turn) {x : Point} → At s.contents ws (DownType n) x → Stays s t
      → ((a : Ty) → s.contents.typ n ≡ some a → ViewVariable s.contents k a)
      → ((w : Word) → s.contents.word k ≡ some w → Finds s.contents (find_ty es w) o)
      → MatchOption o (r ≡ Up n) (λ m. r ≡ Up m) → Moved es s t ws x r
  variable k (Some m) r at g v q h =
      rw h (done_type m at g.grows
      (λ a e. let w = v a e in rw w.is (found_type es s.contents w.name m (q w.name w.name_is))))
  variable k None r at g v q h =
      rw h (done_type n at g.grows
      (λ a e. let w = v a e in e ∙ ap some (w.is ∙ (sym (kept_type es w.name (q w.name w.name_is)) ∙ ap (subst_ty es) (sym w.is)))))

  -- a named type: its name waits for its arguments
  pub into_named : (k as₁ : ℕ) (vs : List ℕ) {x : Point} → At s.contents ws (DownType n) x
      → ((a : Ty) → s.contents.typ n ≡ some a → ViewNamed s.contents k as₁ a) → vs ≡ code Arguments ∷ k ∷ ws
      → Moved es s s vs x (DownTypes as₁)
  into_named k as₁ vs (at_type {a = a} {p = p} e h) v q =
      let w = v a e in
      let i = ap nodes_ty w.is in
      record {
        to = down (args_of w.name p) w.args;
        at = at_types w.args_are (holds_args q w.name_is h);
        outcome = ap (λ b. plug es p (subst_ty es b)) (sym w.is);
        cost = 0;
        grows = grows_same;
        spent = omega arith;
        weight = omega arith;
        moves = omega arith;
      }

  -- no place for a name
  pub named_stuck : (capacity : ℕ) {x : Point} → At s.contents ws (DownType n) x → capacity < length ws + 2 → Stuck es capacity s x
  named_stuck capacity (at_type {a = a} e h) l = let i = held-length h in let j = one-node a in inl (omega arith)

  -- the empty list is done
  pub empty_done : {x : Point} → At s.contents ws (DownTypes n) x → ((bs : Tys) → s.contents.types n ≡ some bs → bs ≡ tnil)
      → Moved es s s ws x (Up n)
  empty_done (at_types {bs = bs} {p = p} e h) v =
      let i = v bs e in
      record {
        to = up p (subst_tys es bs);
        at = at_up (e ∙ ap some (i ∙ sym (ap (subst_tys es) i))) h;
        outcome = refl;
        cost = 0;
        grows = grows_same;
        spent = omega arith;
        weight = omega arith;
        moves = omega arith;
      }

  -- a list: its rest waits for its first type
  pub into_list : (a as₁ : ℕ) (vs : List ℕ) {x : Point} → At s.contents ws (DownTypes n) x
      → ((bs : Tys) → s.contents.types n ≡ some bs → ViewTypes s.contents a as₁ bs) → vs ≡ code Head ∷ as₁ ∷ ws
      → Moved es s s vs x (DownType a)
  into_list a as₁ vs (at_types {bs = bs} {p = p} e h) v q =
      let w = v bs e in
      let i = ap nodes_tys w.is in
      record {
        to = down (head_of w.tail p) w.head;
        at = at_type w.head_is (holds_head q w.tail_is h);
        outcome = ap (λ b. plug es p (subst_tys es b)) (sym w.is);
        cost = 0;
        grows = grows_same;
        spent = omega arith;
        weight = omega arith;
        moves = omega arith;
      }

  -- no place for the rest of a list
  pub list_stuck : (capacity a as₁ : ℕ) {x : Point} → At s.contents ws (DownTypes n) x
      → ((bs : Tys) → s.contents.types n ≡ some bs → ViewTypes s.contents a as₁ bs) → capacity < length ws + 2
      → Stuck es capacity s x
  list_stuck capacity a as₁ (at_types {bs = bs} e h) v l =
      let i = held-length h in
      let j = ap nodes_tys (v bs e).is in
      inl (omega arith)

  -- UP
  -- nothing waits: the end
  pub ended : (vs : List ℕ) {x : Point} → At s.contents ws (Up n) x → length ws < 2 → Moved es s s vs x (End n)
  ended vs (at_up {s = k} {x = y} e h) l = go h e l
    where
      go : {k : Sort} {y : Of k} {us : List ℕ} {p : Path k} → Holds s.contents k us p → Is (item k y) s.contents n → length us < 2
          → Moved es s s vs (up p y) (End n)
      go {k} {y} holds_root e l = record {
        to = end k y;
        at = at_end e;
        outcome = refl;
        cost = 0;
        grows = grows_same;
        spent = omega arith;
        weight = omega arith;
        moves = omega arith;
      }
      go (holds_args q f h) e l = absurd (omega (arith, ap length q))
      go (holds_head q f h) e l = absurd (omega (arith, ap length q))
      go (holds_tail q f h) e l = absurd (omega (arith, ap length q))

  module _ (k m : ℕ) (vs : List ℕ) (q : ws ≡ k ∷ m ∷ vs) where
    -- the arguments of a named type are done
    pub named_done : (j : ℕ) {x : Point} → At s.contents ws (Up n) x → ((w : Wait) → k ≡ code w → Arguments ≡ w)
        → Made 1 s t (IsTyapp m n) j → Moved es s t vs x (Up j)
    named_done j (at_up {s = o} {x = y} e h) r b = go (top h q r) e
      where
        go : {o : Sort} {y : Of o} {p : Path o} → Top s.contents m vs o Arguments p → Is (item o y) s.contents n
            → Moved es s t vs (up p y) (Up j)
        go {y = bs} (top-args {w = w} {p = p} f h) e =
            let g = b.grows.keeps in
            record {
              to = up p (tyapp w bs);
              at = at_up (b.stands w bs (g.word m w f) (g.types n bs e)) (holds_kept g h);
              outcome = refl;
              cost = 1;
              grows = b.grows;
              spent = omega arith;
              weight = omega arith;
              moves = omega arith;
            }

    -- no node for a named type
    pub named_full : (capacity : ℕ) {x : Point} → At s.contents ws (Up n) x → ((w : Wait) → k ≡ code w → Arguments ≡ w)
        → Full 1 s t → Stuck es capacity s x
    named_full capacity (at_up {s = o} {x = y} e h) r b = inr (go y (top h q r))
      where
        go : {o : Sort} (y : Of o) {p : Path o} → Top s.contents m vs o Arguments p
            → s.left + spent (up p y) < nodes_item (outcome es (up p y))
        go bs (top-args {w = w} {p = p} f h) = let i = done-fits es p (tyapp w bs) in let l = b.short in omega arith

    -- the rest of a list is done
    pub list_done : (j : ℕ) {x : Point} → At s.contents ws (Up n) x → ((w : Wait) → k ≡ code w → Tail ≡ w)
        → Made 1 s t (IsTypes m n) j → Moved es s t vs x (Up j)
    list_done j (at_up {s = o} {x = y} e h) r b = go (top h q r) e
      where
        go : {o : Sort} {y : Of o} {p : Path o} → Top s.contents m vs o Tail p → Is (item o y) s.contents n
            → Moved es s t vs (up p y) (Up j)
        go {y = bs} (top_tail {a = a} {p = p} f h) e =
            let g = b.grows.keeps in
            record {
              to = up p (tcons a bs);
              at = at_up (b.stands a bs (g.typ m a f) (g.types n bs e)) (holds_kept g h);
              outcome = refl;
              cost = 1;
              grows = b.grows;
              spent = omega arith;
              weight = omega arith;
              moves = omega arith;
            }

    -- no node for a list
    pub list_full : (capacity : ℕ) {x : Point} → At s.contents ws (Up n) x → ((w : Wait) → k ≡ code w → Tail ≡ w)
        → Full 1 s t → Stuck es capacity s x
    list_full capacity (at_up {s = o} {x = y} e h) r b = inr (go y (top h q r))
      where
        go : {o : Sort} (y : Of o) {p : Path o} → Top s.contents m vs o Tail p
            → s.left + spent (up p y) < nodes_item (outcome es (up p y))
        go bs (top_tail {a = a} {p = p} f h) = let i = done-fits es p (tcons a bs) in let l = b.short in omega arith

    -- the first type of a list is done: it waits for the rest
    pub head_done : (us : List ℕ) {x : Point} → At s.contents ws (Up n) x → ((w : Wait) → k ≡ code w → Head ≡ w)
        → us ≡ code Tail ∷ n ∷ vs → Moved es s s us x (DownTypes m)
    head_done us (at_up {s = o} {x = y} e h) r i = go (top h q r) e
      where
        go : {o : Sort} {y : Of o} {p : Path o} → Top s.contents m vs o Head p → Is (item o y) s.contents n
            → Moved es s s us (up p y) (DownTypes m)
        go {y = a} (top_head {bs = bs} {p = p} f h) e = record {
          to = down (tail_of a p) bs;
          at = at_types f (holds_tail i e h);
          outcome = refl;
          cost = 0;
          grows = grows_same;
          spent = omega arith;
          weight = omega arith;
          moves = omega arith;
        }

    -- no place for the first type: it takes the place of the rest, so this cannot be
    pub head_stuck : (capacity : ℕ) {x : Point} → At s.contents ws (Up n) x → capacity < length vs + 2 → Stuck es capacity s x
    head_stuck capacity (at_up e h) l = let i = held-length h in let j = ap length q in inl (omega arith)
