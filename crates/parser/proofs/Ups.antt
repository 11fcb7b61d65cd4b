-- The moves up with a term, to what waits for it.
use Rattle.std.proofs.Common.{◌≡◌, ℕ, ◌+◌, ◌<◌, List, ◌∷◌, length, Some, None, Option, sym, refl, ap, ◌∙◌, inl, inr, append_assoc, arith}
use mathlib.Core.Option.{some}
use Rattle.hol.specs.Base.{Word, bind}
use Rattle.hol.specs.Syntax.{Tm, app, lam}
use Rattle.hol.specs.Text.{Token, closes, Sexp, Sexps, nil, cons, read_term}
use Rattle.reader.specs.Flat.{flat, flats}
use Rattle.reader.proofs.Streams.{inside-closes}
use Rattle.store.specs.State.{State}
use Rattle.store.specs.Builds.{Made, IsApp, IsLam}
use Rattle.store.proofs.Growth.{grows_same, grows-more}
use Rattle.lent.specs.Piles.{Pile, Pops}
use Rattle.parser.specs.Machine.{Path, arg, scope, alone, applied, finish, after, Point, down, lost, up, ended, weight, Holds, holds_root, holds_func, holds_arg, holds_body, At, at_down, at_lost, at_up, at_end, load, Moved, Stuck, Short}
use Rattle.parser.specs.declared.turn.Turn.TheVariants.{Down, Up, End}
use Rattle.waits.specs.Codes.{code, Decodes}
use Rattle.waits.specs.declared.Wait.TheVariants.{Function, Argument, Body}
use Rattle.parser.proofs.Stack.{holds_kept, held-length, Top, top, top-func, top-arg, top-body}
use Rattle.parser.proofs.Downs.{finish_none}

-- the newest name was taken
pub name_taken : (p q : Pile) {k : ℕ} {zs : List ℕ} (r : Option ℕ) → Pops p q r → p.held ≡ k ∷ zs → q.held ≡ zs
name_taken p q None h e = let i = h.1 in let z : ◌≡◌ {A = ℕ} 0 1 = cc in absurd (omega arith)
name_taken p q (Some w) h e = let i = h.0 in cc

-- ($ f x) with its function read
one_argument : (n : ℕ) (xs : List Word) (t : Tm) (v : Sexp) (vs : Sexps)
    → alone vs (bind (read_term n xs v) (λ x. some (app t x))) ≡ applied n xs (cons v vs) t
one_argument n xs t v nil = refl
one_argument n xs t v (cons w ws) = refl

module _ {ws zs : List ℕ} {ps qs : List Token} {n : ℕ} where
  -- nothing waits: the end
  pub all_done : {s : State} {vs ys : List ℕ} {x : Point} → At s.contents ws zs ps qs (Up n) x → length ws < 2
      → Moved (load (Some (Up n)) ws ps) s s vs ys ps qs x (End n)
  all_done {s = s} {vs = vs} {ys = ys} (at_up m h e) l = go h m e l
    where
      go : {us os : List ℕ} {p : Path} {t : Tm} → Holds s.contents us os p → s.contents.term n ≡ some t → ps ≡ after p qs
          → length us < 2 → Moved (load (Some (Up n)) ws ps) s s vs ys ps qs (up p t) (End n)
      go {t = t} holds_root m e l = record {
        to = ended t;
        at = at_end m e;
        outcome = refl;
        cost = 0;
        grows = grows_same;
        weight = omega arith;
        falls = omega arith;
      }
      go (holds_func q f h) m e l = absurd (omega (arith, ap length q))
      go (holds_arg q f h) m e l = absurd (omega (arith, ap length q))
      go (holds_body q z f j h) m e l = absurd (omega (arith, ap length q))

  module _ {k m : ℕ} {vs : List ℕ} (q : ws ≡ k ∷ m ∷ vs) where
    -- the function is read: it waits for its argument
    pub function_done : {s : State} {us : List ℕ} {x : Point} → At s.contents ws zs ps qs (Up n) x
        → Decodes k Function → us ≡ code Argument ∷ n ∷ vs → Moved (load (Some (Up n)) ws ps) s s us zs ps qs x Down
    function_done {s = s} {us = us} (at_up e h a) r u = go (top h q r) e a
      where
        go : {p : Path} {t : Tm} → Top s.contents m vs zs Function p → s.contents.term n ≡ some t → ps ≡ after p qs
            → Moved (load (Some (Up n)) ws ps) s s us zs ps qs (up p t) Down
        go {t = t} (top-func {n = o} {us = nil} {p = p} d h) e a =
            let l = ap length q in
            let j = ap length u in
            record {
              to = lost;
              at = at_lost a;
              outcome = sym (finish_none p);
              cost = 0;
              grows = grows_same;
              weight = omega arith;
              falls = omega arith;
            }
        go {t = t} (top-func {n = o} {us = cons v rest} {p = p} d h) e a =
            let l = ap length q in
            let j = ap length u in
            record {
              to = down (arg t rest p) o v;
              at = at_down (holds_arg u e h) (a ∙ append_assoc (flat v) (flats rest) (closes ∷ after p qs)) (omega arith);
              outcome = ap (finish p) (one_argument o (scope p) t v rest);
              cost = 0;
              grows = grows_same;
              weight = omega arith;
              falls = omega arith;
            }

    -- the argument takes the place of the function, so that there always is one
    pub function_refull : (s : State) {x : Point} {room names : ℕ} → At s.contents ws zs ps qs (Up n) x → room < length vs + 2
        → Short room names (weight x) s
    function_refull s (at_up e h a) l = let i = held-length h in let y = ap length q in inr (inl (omega arith))

    -- something stands behind the argument or the body
    pub argument_unclosed : {s : State} {x : Point} → At s.contents ws zs ps qs (Up n) x → Decodes k Argument
        → ((rs : List Token) → ps ≡ closes ∷ rs → ⊥) → Stuck s s x
    argument_unclosed {s = s} (at_up e h a) r c = go (top h q r) a
      where
        go : {p : Path} {t : Tm} → Top s.contents m vs zs Argument p → ps ≡ after p qs → Stuck s s (up p t)
        go (top-arg {us = nil} {p = p} d h) a = absurd (c (after p qs) a)
        go (top-arg {us = cons v rest} {p = p} d h) a = record { outcome = finish_none p; grows = grows-more (omega arith) grows_same }

    pub body_unclosed : {s : State} {x : Point} → At s.contents ws zs ps qs (Up n) x → Decodes k Body
        → ((rs : List Token) → ps ≡ closes ∷ rs → ⊥) → Stuck s s x
    body_unclosed {s = s} (at_up e h a) r c = go (top h q r) a
      where
        go : {p : Path} {t : Tm} → Top s.contents m vs zs Body p → ps ≡ after p qs → Stuck s s (up p t)
        go (top-body {us = nil} {p = p} z d h) a = absurd (c (after p qs) a)
        go (top-body {us = cons v rest} {p = p} z d h) a = record { outcome = finish_none p; grows = grows-more (omega arith) grows_same }

    module _ {os : List Token} (c : ps ≡ closes ∷ os) where
      -- the argument is read
      pub argument_done : {s t : State} {j : ℕ} {x : Point} → At s.contents ws zs ps qs (Up n) x
          → Decodes k Argument → Made 1 s t (IsApp m n) j → Moved (load (Some (Up n)) ws ps) s t vs zs os qs x (Up j)
      argument_done {s = s} {t = t} {j = j} (at_up e h a) r b = go (top h q r) e a
        where
          go : {p : Path} {u : Tm} → Top s.contents m vs zs Argument p → s.contents.term n ≡ some u → ps ≡ after p qs
              → Moved (load (Some (Up n)) ws ps) s t vs zs os qs (up p u) (Up j)
          go {u = u} (top-arg {f = f} {us = us} {p = p} d h) e a =
              let (y, z) = inside-closes us (after p qs) os (sym a ∙ c) in
              let g = b.grows.keeps in
              let l = ap length q in
              let i = ap length c in
              record {
                to = up p (app f u);
                at = at_up (b.stands f u (g.term m f d) (g.term n u e)) (holds_kept g h) z;
                outcome = sym (ap (λ vs₁. finish p (alone vs₁ (some (app f u)))) y);
                cost = 1;
                grows = b.grows;
                weight = omega arith;
                falls = omega arith;
              }

      -- the body is read
      pub body-done : {s t : State} {j : ℕ} {ys : List ℕ} {x : Point} → At s.contents ws zs ps qs (Up n) x
          → Decodes k Body → ((i : ℕ) (zs₁ : List ℕ) → zs ≡ i ∷ zs₁ → ys ≡ zs₁) → Made 1 s t (IsLam m n) j
          → Moved (load (Some (Up n)) ws ps) s t vs ys os qs x (Up j)
      body-done {s = s} {t = t} {j = j} {ys = ys} (at_up e h a) r taken b = go (top h q r) e a
        where
          go : {p : Path} {u : Tm} → Top s.contents m vs zs Body p → s.contents.term n ≡ some u → ps ≡ after p qs
              → Moved (load (Some (Up n)) ws ps) s t vs ys os qs (up p u) (Up j)
          go {u = u} (top-body {k = i} {zs₁ = zs₁} {a = ty} {us = us} {p = p} w d h) e a =
              let (y, z) = inside-closes us (after p qs) os (sym a ∙ c) in
              let g = b.grows.keeps in
              let l = ap length q in
              let o = ap length c in
              record {
                to = up p (lam ty u);
                at = at_up (b.stands ty u (g.typ m ty d) (g.term n u e)) (rw (taken i zs₁ w) (holds_kept g h)) z;
                outcome = sym (ap (λ vs₁. finish p (alone vs₁ (some (lam ty u)))) y);
                cost = 1;
                grows = b.grows;
                weight = omega arith;
                falls = omega arith;
              }
