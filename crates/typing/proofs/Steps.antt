-- One lemma for each move of the machine that finds the type of a term.
use Rattle.std.proofs.Common.{◌≡◌, ℕ, ◌≤◌, Bool, true, false, List, [], ◌∷◌, length, Some, None, Option, sym, refl, ap, ◌∙◌, arith}
use Rattle.std.specs.Bool.{then_some}
use Rattle.std.specs.Option.{MatchOption, IsSomeAnd, option_map}
use mathlib.Core.Option.{some, none}
use Rattle.hol.specs.Base.{nth}
use Rattle.hol.specs.Syntax.{Ty, Tm, bvar, fun}
use Rattle.hol.specs.Theory.{Theory, ok_ty, const_at, app_ty, type_in}
use Rattle.store.specs.Measures.{nodes_tm}
use Rattle.store.specs.State.{State, Grows, Stays}
use Rattle.store.specs.Builds.{Made}
use Rattle.store.specs.Views.{ViewFree, ViewConstant, ViewApply, ViewLambda}
use Rattle.store.proofs.Growth.{grows_same}
use Rattle.signature.specs.Finds.{Finds}
use Rattle.typing.specs.Built.{types_built}
use Rattle.typing.specs.Typed.{Typed, nodes_of}
use Rattle.typing.specs.Machine.{Path, func_of, arg_of, body_of, scope, plug, Holds, holds_root, holds_func, holds_arg, holds_body, Point, down, up, end, untyped, At, at_down, at_up, at_end, at_untyped, Moved}
use Rattle.typing.specs.declared.turn.Turn.{Turn}
use Rattle.typing.specs.declared.turn.Turn.TheVariants.{Down, Up, End}
use Rattle.waits.specs.Codes.{code, Decodes}
use Rattle.waits.specs.declared.Wait.{Wait}
use Rattle.waits.specs.declared.Wait.TheVariants.{Function, Argument, Body}
use Rattle.typing.proofs.Sizes.{nodes_positive}
use Rattle.typing.proofs.Stack.{holds_kept, bound_type, not_bound, plug_none, Top, top, top-func, top-arg, top-body}

-- up with a number, if there is one
pub ups : (r : Option ℕ) (q : Option Turn) → MatchOption r (q ≡ None) (λ n. IsSomeAnd q (λ t. t ≡ Up n)) → q ≡ option_map Up r
ups None q e = e
ups (Some n) None e = absurd e
ups (Some n) (Some t) e = ap Some e

module _ (th : Theory) (s t : State) (ws ss : List ℕ) (n : ℕ) where
  -- a term whose type is found at once, with the number m
  typed : (m cost : ℕ) {u : Tm} {p : Path} {a : Ty} → Holds s.contents ws ss p → Grows cost s t → cost ≤ types_built th (scope p) u
      → type_in th (scope p) u ≡ some a → t.contents.typ m ≡ some a → Moved th s t ws ss (down p u) (Some (Up m))
  typed m cost {u} {p} {a} h g l e f = let k = nodes_positive u in record {
    to = up p a;
    at = at_up f (holds_kept g.keeps h);
    outcome = ap (plug th p) (sym e);
    cost = cost;
    grows = g;
    built = omega arith;
    weight = omega arith;
    moves = omega arith;
  }

  -- a term that has none
  not_typed : (cost : ℕ) {u : Tm} {p : Path} → Grows cost s t → cost ≤ types_built th (scope p) u → type_in th (scope p) u ≡ none
      → Moved th s t ws ss (down p u) None
  not_typed cost {u} {p} g l e = let k = nodes_positive u in record {
    to = untyped;
    at = at_untyped;
    outcome = sym (ap (plug th p) e ∙ plug_none th p);
    cost = cost;
    grows = g;
    built = omega arith;
    weight = omega arith;
    moves = omega arith;
  }

  -- a free variable, whose type is ok or not
  pub free_tried : (ok : Bool) {x : Point} {k m : ℕ} → At s.contents ws ss (Some (Down n)) x → Stays s t
      → ((u : Tm) → s.contents.term n ≡ some u → ViewFree s.contents k m u)
      → ((a : Ty) → s.contents.typ m ≡ some a → ok ≡ ok_ty th a) → Moved th s t ws ss x (then_some ok (Up m))
  free_tried true {m = m} (at_down {t = u} {p = p} e h) g says ok =
      let v = says u e in
      let q = ok v.ty v.ty_is in
      typed m 0 h g.grows (omega arith) (ap (type_in th (scope p)) v.is ∙ rw (← q) refl) (g.grows.keeps.typ m v.ty v.ty_is)
  free_tried false (at_down {t = u} {p = p} e h) g says ok =
      let v = says u e in
      let q = ok v.ty v.ty_is in
      not_typed 0 g.grows (omega arith) (ap (type_in th (scope p)) v.is ∙ rw (← q) refl)

  -- a bound variable, by the scope
  pub bound_tried : (r : Option ℕ) {x : Point} {k : ℕ} → At s.contents ws ss (Some (Down n)) x → Stays s t
      → ((u : Tm) → s.contents.term n ≡ some u → u ≡ bvar k) → Finds (λ w m. m ≡ w) (nth ss k) r → Moved th s t ws ss x (option_map Up r)
  bound_tried (Some m) {k = k} (at_down {t = u} {p = p} e h) g says f =
      let (a, i, j) = bound_type h k (f.is ∙ ap some (sym f.stands)) in
      typed m 0 h g.grows (omega arith) (ap (type_in th (scope p)) (says u e) ∙ i) (g.grows.keeps.typ m a j)
  bound_tried None {k = k} (at_down {t = u} {p = p} e h) g says q =
      not_typed 0 g.grows (omega arith) (ap (type_in th (scope p)) (says u e) ∙ not_bound h k q)

  -- a constant
  pub constant_tried : (r : Option ℕ) {x : Point} {k as₁ : ℕ} → ((u : Tm) → s.contents.term n ≡ some u → ViewConstant s.contents k as₁ u)
      → At s.contents ws ss (Some (Down n)) x
      → ((u : Tm) (v : ViewConstant s.contents k as₁ u) → Typed (nodes_of (const_at th v.name v.args)) s t (const_at th v.name v.args) r)
      → Moved th s t ws ss x (option_map Up r)
  constant_tried (Some m) says (at_down {t = u} {p = p} e h) made =
      let v = says u e in
      let q = made u v in
      let f = q.finds in
      let b = ap (types_built th (scope p)) v.is in
      typed m (nodes_of (const_at th v.name v.args)) h q.grows (omega arith) (ap (type_in th (scope p)) v.is ∙ f.is) f.stands
  constant_tried None says (at_down {t = u} {p = p} e h) made =
      let v = says u e in
      let q = made u v in
      let b = ap (types_built th (scope p)) v.is in
      not_typed (nodes_of (const_at th v.name v.args)) q.grows (omega arith) (ap (type_in th (scope p)) v.is ∙ q.finds)

  -- an application: its argument waits for its function
  pub into_function : {x : Point} {f y : ℕ} {vs : List ℕ} → At s.contents ws ss (Some (Down n)) x
      → ((u : Tm) → s.contents.term n ≡ some u → ViewApply s.contents f y u) → vs ≡ code Function ∷ y ∷ ws
      → Moved th s s vs ss x (Some (Down f))
  into_function (at_down {t = u} {p = p} e h) says q =
      let v = says u e in
      let i = ap nodes_tm v.is in
      let b = ap (types_built th (scope p)) v.is in
      record {
        to = down (func_of v.arg p) v.func;
        at = at_down v.func_is (holds_func q v.arg_is h);
        outcome = ap (λ w. plug th p (type_in th (scope p) w)) (sym v.is);
        cost = 0;
        grows = grows_same;
        built = omega arith;
        weight = omega arith;
        moves = omega arith;
      }

  -- a λ whose type is ok: it waits for its body, with its type in the scope
  pub into_body : {x : Point} {m b : ℕ} {vs rs : List ℕ} → At s.contents ws ss (Some (Down n)) x → Stays s t
      → ((u : Tm) → s.contents.term n ≡ some u → ViewLambda s.contents m b u)
      → ((a : Ty) → s.contents.typ m ≡ some a → true ≡ ok_ty th a) → vs ≡ code Body ∷ m ∷ ws → rs ≡ m ∷ ss
      → Moved th s t vs rs x (Some (Down b))
  into_body {m = m} {b = b} (at_down {t = u} {p = p} e h) g says ok q r =
      let v = says u e in
      let o = ok v.ty v.ty_is in
      let k = g.grows.keeps in
      let i = ap nodes_tm v.is in
      let l = ap (types_built th (scope p)) v.is in
      record {
        to = down (body_of v.ty p) v.body;
        at = at_down (k.term b v.body v.body_is) (holds_body q r (k.typ m v.ty v.ty_is) (holds_kept k h));
        outcome = sym (ap (λ w. plug th p (type_in th (scope p) w)) v.is ∙ rw (← o) refl);
        cost = 0;
        grows = g.grows;
        built = omega arith;
        weight = omega arith;
        moves = omega arith;
      }

  pub lambda_refused : {x : Point} {m b : ℕ} → At s.contents ws ss (Some (Down n)) x → Stays s t
      → ((u : Tm) → s.contents.term n ≡ some u → ViewLambda s.contents m b u)
      → ((a : Ty) → s.contents.typ m ≡ some a → false ≡ ok_ty th a) → Moved th s t ws ss x None
  lambda_refused (at_down {t = u} {p = p} e h) g says ok =
      let v = says u e in
      let q = ok v.ty v.ty_is in
      not_typed 0 g.grows (omega arith) (ap (type_in th (scope p)) v.is ∙ rw (← q) refl)

  -- UP with a type, whose number is n, to what waits for it
  -- nothing waits
  pub all_done : {x : Point} → At s.contents ws ss (Some (Up n)) x → ws ≡ [] → Moved th s s ws ss x (Some (End n))
  all_done (at_up {a = a} e (holds_root w q)) z = record { to = end a; at = at_end e; outcome = refl; cost = 0; grows = grows_same; built = omega arith; weight = omega arith; moves = omega arith }
  all_done (at_up e (holds_func f i h)) z = let l = ap length (sym f ∙ z) in absurd (omega arith)
  all_done (at_up e (holds_arg f i h)) z = let l = ap length (sym f ∙ z) in absurd (omega arith)
  all_done (at_up e (holds_body f r i h)) z = let l = ap length (sym f ∙ z) in absurd (omega arith)

  -- the newest words are k and kept, and r waits
  module _ (k kept : ℕ) (vs : List ℕ) (r : Wait) (newest : ws ≡ k ∷ kept ∷ vs) (waits : Decodes k r) where
    -- the function's type waits for the argument's
    pub into_argument : {x : Point} {us : List ℕ} → At s.contents ws ss (Some (Up n)) x → r ≡ Function → us ≡ code Argument ∷ n ∷ vs
        → Moved th s s us ss x (Some (Down kept))
    into_argument (at_up {a = a} {p = p} e h) z q = of (rw z at (top h newest waits)) q
      where
        of : {p : Path} {us : List ℕ} → Top s.contents kept vs ss Function p → us ≡ code Argument ∷ n ∷ vs → Moved th s s us ss (up p a) (Some (Down kept))
        of (top-func {x = y} {p = p} f i) q = record { to = down (arg_of a p) y; at = at_down f (holds_arg q e i); outcome = refl; cost = 0; grows = grows_same; built = omega arith; weight = omega arith; moves = omega arith }

    -- the argument's type fits the function's, or does not
    application_typed : {x : Point} {m : ℕ} → At s.contents ws ss (Some (Up n)) x → r ≡ Argument → Stays s t
        → ((c d : Ty) → s.contents.typ kept ≡ some c → s.contents.typ n ≡ some d → Finds (λ b i. t.contents.typ i ≡ some b) (app_ty (some c) (some d)) (Some m))
        → Moved th s t vs ss x (Some (Up m))
    application_typed {m = m} (at_up {a = a} e h) z g fits = of (rw z at (top h newest waits))
      where
        of : {p : Path} → Top s.contents kept vs ss Argument p → Moved th s t vs ss (up p a) (Some (Up m))
        of (top-arg {a = b} {p = p} f i) =
            let q = fits b a f e in
            record { to = up p q.what; at = at_up q.stands (holds_kept g.grows.keeps i); outcome = ap (plug th p) (sym q.is); cost = 0; grows = g.grows; built = omega arith; weight = omega arith; moves = omega arith }

    application_refused : {x : Point} → At s.contents ws ss (Some (Up n)) x → r ≡ Argument → Stays s t
        → ((c d : Ty) → s.contents.typ kept ≡ some c → s.contents.typ n ≡ some d → app_ty (some c) (some d) ≡ none)
        → Moved th s t vs ss x None
    application_refused (at_up {a = a} e h) z g fits = of (rw z at (top h newest waits))
      where
        of : {p : Path} → Top s.contents kept vs ss Argument p → Moved th s t vs ss (up p a) None
        of (top-arg {a = b} {p = p} f i) =
            record { to = untyped; at = at_untyped; outcome = sym (ap (plug th p) (fits b a f e) ∙ plug_none th p); cost = 0; grows = g.grows; built = omega arith; weight = omega arith; moves = omega arith }

    pub application_tried : (m : Option ℕ) {x : Point} → At s.contents ws ss (Some (Up n)) x → r ≡ Argument → Stays s t
        → ((c d : Ty) → s.contents.typ kept ≡ some c → s.contents.typ n ≡ some d → Finds (λ b i. t.contents.typ i ≡ some b) (app_ty (some c) (some d)) m)
        → Moved th s t vs ss x (option_map Up m)
    application_tried (Some m) at z g fits = application_typed at z g fits
    application_tried None at z g fits = application_refused at z g fits

    -- the body's type: the λ's is built, and its variable leaves the scope
    pub lambda_typed : {x : Point} {m : ℕ} {rs : List ℕ} → At s.contents ws ss (Some (Up n)) x → r ≡ Body → ((qs : List ℕ) → ss ≡ kept ∷ qs → rs ≡ qs)
        → ((c d : Ty) → s.contents.typ kept ≡ some c → s.contents.typ n ≡ some d → Made 3 s t (λ b j. b.typ j ≡ some (fun c d)) m)
        → Moved th s t vs rs x (Some (Up m))
    lambda_typed {m = m} {rs = rs} (at_up {a = a} e h) z y makes = of (rw z at (top h newest waits))
      where
        of : {p : Path} → Top s.contents kept vs ss Body p → Moved th s t vs rs (up p a) (Some (Up m))
        of (top-body {a = b} {p = p} {rs = qs} f j l) =
            let q = makes b a j e in
            let w : qs ≡ rs = sym (y qs f) in
            record { to = up p (fun b a); at = at_up q.stands (holds_kept q.grows.keeps (rw w at l)); outcome = refl; cost = 3; grows = q.grows; built = omega arith; weight = omega arith; moves = omega arith }
