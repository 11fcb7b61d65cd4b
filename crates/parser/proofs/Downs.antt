-- The moves down into a term: a word, or a bracket.
use Rattle.std.proofs.Common.{◌≡◌, ℕ, zero, suc, ◌+◌, ◌-◌, ◌*◌, ◌<◌, ◌≤◌, ◌⊎◌, List, [], ◌∷◌, ◌++◌, length, Some, sym, refl, ap, ◌∙◌, inl, inr, append_assoc, arith, length-append}
use mathlib.Core.Option.{Option, some, none}
use Rattle.hol.specs.Base.{Word, bind}
use Rattle.hol.specs.Syntax.{Ty, Tm, bvar, app, lam}
use Rattle.hol.specs.Text.{Token, opens, closes, word, Sexp, Sexps, atom, list, nil, cons, two_of, read_type, read_lam, read_term, index_of}
use Rattle.reader.specs.Flat.{flat, flats, cost, costs, depths}
use Rattle.reader.proofs.Streams.{flat_word, flat-opens, flat-closes, flat_empty}
use Rattle.store.specs.State.{Contents, State, Grows}
use Rattle.store.specs.Builds.{Made, Full, IsBound}
use Rattle.store.proofs.Growth.{grows_same, grows-more}
use Rattle.parser.specs.Scope.{Names}
use Rattle.parser.specs.Parts.{sign, WholeRead, FunctionNext, BodyNext, NoTerm}
use Rattle.parser.specs.Machine.{Path, root, func, arg, body, scope, alone, applied, finish, after, owed, Point, down, lost, up, weight, Holds, holds_func, holds_body, At, at_down, at_lost, at_up, load, Moved, Stuck, Short}
use Rattle.parser.specs.declared.turn.Binder.{Binder}
use Rattle.parser.specs.declared.turn.Form.TheVariants.{Application, Lambda}
use Rattle.parser.specs.declared.turn.Turn.TheVariants.{Down, Up}
use Rattle.waits.specs.Codes.{code}
use Rattle.waits.specs.declared.Wait.TheVariants.{Function, Body}
use Rattle.parser.proofs.Stack.{holds_kept, held-length, names_length, names_of}

pub finish_none : (p : Path) → finish p none ≡ none
finish_none root = refl
finish_none (func n vs p) = finish_none p
finish_none (arg f nil p) = finish_none p
finish_none (arg f (cons v vs) p) = finish_none p
finish_none (body x a nil p) = finish_none p
finish_none (body x a (cons v vs) p) = finish_none p

module _ {ws zs : List ℕ} {ps qs : List Token} where
  -- no token is ahead: this cannot be
  pub no_token : {c : Contents} {x : Point} → At c ws zs ps qs Down x → ps ≡ [] → ⊥
  no_token (at_down {p = p} {u = u} h e d) i = flat_empty u (after p qs) (sym e ∙ i)
  no_token (at_lost e) i = let z : ◌≡◌ {A = ℕ} 0 1 = cc in omega arith

  -- a bracket closes where a term should be
  pub nothing_there : {s : State} {rs : List Token} {x : Point} → At s.contents ws zs ps qs Down x → ps ≡ closes ∷ rs → Stuck s s x
  nothing_there {rs = rs} (at_down {p = p} {u = u} h e d) i = absurd (flat-closes u (after p qs) rs (sym e ∙ i))
  nothing_there (at_lost e) i = record { outcome = refl; grows = grows_same }

  -- A WORD
  module _ {w : Word} {rs : List Token} (i : ps ≡ word w ∷ rs) where
    pub variable_missing : {s : State} {x : Point} → At s.contents ws zs ps qs Down x
        → ((xs : List Word) → Names s.contents zs xs → index_of w xs 0 ≡ none) → Stuck s s x
    variable_missing (at_down {p = p} {n = n} {u = u} h e d) f =
        let (j, k) = flat_word u (after p qs) rs w (sym e ∙ i) in
        record {
          outcome = ap (λ t. finish p (read_term n (scope p) t)) j ∙ (rw (f (scope p) (names_of h)) (finish_none p));
          grows = grows-more (omega arith) grows_same;
        }
    variable_missing (at_lost e) f = let z : ◌≡◌ {A = ℕ} 0 1 = cc in absurd (omega arith)

    pub variable_found : {s t : State} {x : Point} {k m : ℕ} → At s.contents ws zs ps qs Down x
        → ((xs : List Word) → Names s.contents zs xs → index_of w xs 0 ≡ some k) → Made 1 s t (IsBound k) m
        → Moved (load (Some Down) ws ps) s t ws zs rs qs x (Up m)
    variable_found {k = k} (at_down {p = p} {n = n} {u = u} h e d) f b =
        let (j, o) = flat_word u (after p qs) rs w (sym e ∙ i) in
        let l = ap cost j in
        let y = ap length i in
        record {
          to = up p (bvar k);
          at = at_up b.stands (holds_kept b.grows.keeps h) o;
          outcome = sym (ap (λ t. finish p (read_term n (scope p) t)) j ∙ (rw (f (scope p) (names_of h))));
          cost = 1;
          grows = b.grows;
          weight = omega arith;
          falls = omega arith;
        }
    variable_found (at_lost e) f b = let z : ◌≡◌ {A = ℕ} 0 1 = cc in absurd (omega arith)

    pub variable_short : {s t : State} {x : Point} {room names : ℕ} → At s.contents ws zs ps qs Down x → Full 1 s t
        → Short room names (weight x) s
    variable_short (at_down {p = p} {u = u} h e d) f =
        let (j, o) = flat_word u (after p qs) rs w (sym e ∙ i) in
        let l = ap cost j in
        let y = f.short in
        inl (omega arith)
    variable_short (at_lost e) f = let z : ◌≡◌ {A = ℕ} 0 1 = cc in absurd (omega arith)

-- A BRACKET

-- the machine stands behind an opening bracket
pub data Inside (c : Contents) (ws zs : List ℕ) (rs qs : List Token) : Point → Type 0 where
  inside : {p : Path} {n : ℕ} {ts : Sexps} → Holds c ws zs p → rs ≡ flats ts ++ (closes ∷ after p qs) → depths ts ≤ n
      → Inside c ws zs rs qs (down p (suc n) (list ts))

enter : {c : Contents} {ws zs : List ℕ} {rs qs : List Token} {p : Path} (n : ℕ) {ts : Sexps} → Holds c ws zs p
    → rs ≡ flats ts ++ (closes ∷ after p qs) → 1 + depths ts ≤ n → Inside c ws zs rs qs (down p n (list ts))
enter zero h e d = absurd (omega arith)
enter (suc n) h e d = inside h e (omega arith)

pub into : {c : Contents} {ws zs : List ℕ} {ps rs qs : List Token} {x : Point} → At c ws zs ps qs Down x → ps ≡ opens ∷ rs
    → Inside c ws zs rs qs x
into {rs = rs} {qs = qs} (at_down {p = p} {n = n} {u = u} h e d) i =
    let (ts, j, k) = flat-opens u (after p qs) rs (sym e ∙ i) in
    rw j (enter n h k (rw j at d))
into (at_lost e) i = let z : ◌≡◌ {A = ℕ} 0 1 = cc in absurd (omega arith)

-- a term and then nothing is nothing
never : (o : Option Tm) → bind {C = Tm} o (λ f. none) ≡ none
never none = refl
never (some f) = refl

-- ($ f x) by its parts
app_read : (n : ℕ) (xs : List Word) (u : Sexp) (vs : Sexps)
    → bind (read_term n xs u) (applied n xs vs)
    ≡ two_of (cons u vs) (λ s v. bind (read_term n xs s) (λ f. bind (read_term n xs v) (λ x. some (app f x))))
app_read n xs u nil = never (read_term n xs u)
app_read n xs u (cons v nil) = refl
app_read n xs u (cons v (cons w ws)) = never (read_term n xs u)

-- (\\ x A t) by its parts: a is what is read of v
lam_read : (n : ℕ) (xs : List Word) (x : Word) (v u : Sexp) (vs : Sexps) (a : Ty) → read_type v ≡ some a
    → alone vs (bind (read_term n (x ∷ xs) u) (λ b. some (lam a b)))
    ≡ read_lam (λ ys w. read_term n ys w) xs (cons (atom x) (cons v (cons u vs)))
lam_read n xs x v u nil a e = rw e
lam_read n xs x v u (cons w ws) a e = refl

-- no term
pub no_term : {s t : State} {ws zs : List ℕ} {rs qs : List Token} {x : Point} → Inside s.contents ws zs rs qs x
    → ((ts : Sexps) (ss : List Token) → rs ≡ flats ts ++ (closes ∷ ss) → NoTerm s t ts) → Stuck s t x
no_term {qs = qs} (inside {p = p} {n = n} {ts = ts} h e d) f =
    let w = f ts (after p qs) e in
    record {
      outcome = ap (finish p) (w.reads n (scope p)) ∙ finish_none p;
      grows = grows-more (omega arith) w.grows;
    }

module _ {ws zs : List ℕ} {ps rs qs : List Token} (i : ps ≡ opens ∷ rs) where
  module _ {s t : State} {os : List Token} where
    -- a whole term
    pub whole_read : {x : Point} {m : ℕ} → Inside s.contents ws zs rs qs x
        → ((ts : Sexps) (ss : List Token) → rs ≡ flats ts ++ (closes ∷ ss) → WholeRead s t ts ss os m)
        → Moved (load (Some Down) ws ps) s t ws zs os qs x (Up m)
    whole_read (inside {p = p} {n = n} {ts = ts} h e d) f =
        let w = f ts (after p qs) e in
        let j = ap length i in
        let k = ap length e ∙ length-append (flats ts) (closes ∷ after p qs) in
        let l = ap length w.behind in
        record {
          to = up p w.term;
          at = at_up w.stands (holds_kept w.grows.keeps h) w.behind;
          outcome = sym (ap (finish p) (w.reads n (scope p)));
          cost = costs ts;
          grows = w.grows;
          weight = omega arith;
          falls = omega arith;
        }

    -- an application: its function comes next
    pub function_next : {x : Point} {vs : List ℕ} {m : ℕ} → Inside s.contents ws zs rs qs x
        → ((ts : Sexps) (ss : List Token) → rs ≡ flats ts ++ (closes ∷ ss) → FunctionNext s t ts ss os)
        → vs ≡ code Function ∷ m ∷ ws → Moved (load (Some Down) ws ps) s t vs zs os qs x Down
    function_next {vs = vs} {m = m} (inside {p = p} {n = n} {ts = ts} h e d) f v =
        let w = f ts (after p qs) e in
        go w.rest w.is w.behind w.same
      where
        go : (us : Sexps) → ts ≡ cons (atom (sign Application)) us → os ≡ flats us ++ (closes ∷ after p qs) → t ≡ s
            → Moved (load (Some Down) ws ps) s t vs zs os qs (down p (suc n) (list ts)) Down
        go nil j k same =
            let y = ap length i in
            let l = ap length e in
            let o = ap length k in
            let r = ap length v in
            let q = ap (λ ts₁. length (flats ts₁ ++ (closes ∷ after p qs))) j in
            record {
              to = lost;
              at = at_lost k;
              outcome = sym (ap (λ us. finish p (read_term (suc n) (scope p) (list us))) j ∙ finish_none p);
              cost = 0;
              grows = rw same grows_same;
              weight = omega arith;
              falls = omega arith;
            }
        go (cons u us) j k same =
            let y = ap length i in
            let l = ap length e in
            let o = ap length k in
            let r = ap length v in
            let q = ap (λ ts₁. length (flats ts₁ ++ (closes ∷ after p qs))) j in
            let z = ap costs j in
            let a = ap depths j in
            record {
              to = down (func n us p) n u;
              at =
                  at_down (holds_func v (omega arith) (rw same h)) (k ∙ append_assoc (flat u) (flats us) (closes ∷ after p qs)) (omega arith);
              outcome =
                  ap (finish p) (app_read n (scope p) u us)
                  ∙ sym (ap (λ vs₁. finish p (read_term (suc n) (scope p) (list vs₁))) j);
              cost = 0;
              grows = rw same grows_same;
              weight = omega arith;
              falls = omega arith;
            }

    -- a λ: its body comes next
    pub body_next : {x : Point} {vs ys : List ℕ} {b : Binder} → Inside s.contents ws zs rs qs x
        → ((ts : Sexps) (ss : List Token) → rs ≡ flats ts ++ (closes ∷ ss) → BodyNext s t ts ss os b)
        → vs ≡ code Body ∷ b.ty ∷ ws → ys ≡ b.name ∷ zs → Moved (load (Some Down) ws ps) s t vs ys os qs x Down
    body_next {vs = vs} {ys = ys} {b = b} (inside {p = p} {n = n} {ts = ts} h e d) f v y =
        let w = f ts (after p qs) e in
        let d = w.bound in
        go d.name d.tree d.ty d.rest (w.is ∙ ap (cons (atom (sign Lambda))) d.is) d.reads d.name_is d.ty_is
        d.behind d.grows
      where
        go : (x : Word) (u : Sexp) (a : Ty) (us : Sexps) → ts ≡ cons (atom (sign Lambda)) (cons (atom x) (cons u us))
            → read_type u ≡ some a → t.contents.word b.name ≡ some x → t.contents.typ b.ty ≡ some a
            → os ≡ flats us ++ (closes ∷ after p qs) → Grows (length x + cost u) s t
            → Moved (load (Some Down) ws ps) s t vs ys os qs (down p (suc n) (list ts)) Down
        go x u a nil j r xi ai k g =
            let l = ap length i in
            let m = ap length e in
            let o = ap length k in
            let q = ap length v in
            let z = ap (λ ts₁. length (flats ts₁ ++ (closes ∷ after p qs))) j in
            let c = ap costs j in
            let l₁ = length-append (flat u ++ []) (closes ∷ after p qs) in
            record {
              to = lost;
              at = at_lost k;
              outcome = sym (ap (λ us. finish p (read_term (suc n) (scope p) (list us))) j ∙ finish_none p);
              cost = length x + cost u;
              grows = g;
              weight = omega arith;
              falls = omega arith;
            }
        go x u a (cons w us) j r xi ai k g =
            let l = ap length i in
            let m = ap length e in
            let o = ap length k ∙ length-append (flats (cons w us)) (closes ∷ after p qs) in
            let q = ap length v in
            let z = ap (λ ts₁. length (flats ts₁ ++ (closes ∷ after p qs))) j in
            let c = ap costs j in
            let depth_is = ap depths j in
            let l₁ = length-append (flat u ++ flats (cons w us)) (closes ∷ after p qs) in
            let l₂ = length-append (flat u) (flats (cons w us)) in
            record {
              to = down (body x a us p) n w;
              at =
                  at_down (holds_body v y ai xi (holds_kept g.keeps h)) (k ∙ append_assoc (flat w) (flats us) (closes ∷ after p qs))
                  (omega arith);
              outcome =
                  ap (finish p) (lam_read n (scope p) x u w us a r)
                  ∙ sym (ap (λ vs₁. finish p (read_term (suc n) (scope p) (list vs₁))) j);
              cost = length x + cost u;
              grows = g;
              weight = omega arith;
              falls = omega arith;
            }

  -- REFUSED
  -- for want of what the beginning of the bracket takes
  pub open_short : (s : State) {x : Point} {room names : ℕ} → Inside s.contents ws zs rs qs x
      → ((ts : Sexps) (ss : List Token) → rs ≡ flats ts ++ (closes ∷ ss)
      → (s.left < costs ts) ⊎ (room - length ws < 4 * costs ts)) → Short room names (weight x) s
  open_short s {x} {room} {names} (inside {p = p} {ts = ts} h e d) f = go (f ts (after p qs) e)
    where
      go : (s.left < costs ts) ⊎ (room - length ws < 4 * costs ts) → Short room names (costs ts + owed p) s
      go (inl l) = inl (omega arith)
      go (inr l) = let k = held-length h in inr (inl (omega arith))

  module _ {s t : State} {os : List Token} where
    -- for want of words for a function
    pub function_full : {x : Point} {room names : ℕ} → Inside s.contents ws zs rs qs x
        → ((ts : Sexps) (ss : List Token) → rs ≡ flats ts ++ (closes ∷ ss) → FunctionNext s t ts ss os)
        → room < length ws + 2 → Short room names (weight x) s
    function_full (inside {p = p} {ts = ts} h e d) f l =
        let k = held-length h in
        let c = ap costs (f ts (after p qs) e).is in
        inr (inl (omega arith))

    -- for a body
    pub body_full : {x : Point} {room names : ℕ} {b : Binder} → Inside s.contents ws zs rs qs x
        → ((ts : Sexps) (ss : List Token) → rs ≡ flats ts ++ (closes ∷ ss) → BodyNext s t ts ss os b)
        → room < length ws + 2 → Short room names (weight x) s
    body_full (inside {p = p} {ts = ts} h e d) f l =
        let k = held-length h in
        let c = ap costs (f ts (after p qs) e).is in
        inr (inl (omega arith))

    -- for a name
    pub names_full : {x : Point} {room names : ℕ} {b : Binder} → Inside s.contents ws zs rs qs x
        → ((ts : Sexps) (ss : List Token) → rs ≡ flats ts ++ (closes ∷ ss) → BodyNext s t ts ss os b)
        → names < length zs + 1 → Short room names (weight x) s
    names_full (inside {p = p} {ts = ts} h e d) f l =
        let k = names_length h in
        let c = ap costs (f ts (after p qs) e).is in
        inr (inr (omega arith))
