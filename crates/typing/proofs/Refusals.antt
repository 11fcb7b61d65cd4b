-- A move that is refused lacks words of the stack, of scratch or of the scope, or nodes.
use Rattle.std.proofs.Common.{◌≡◌, ℕ, ◌+◌, ◌-◌, ◌*◌, ◌<◌, ◌≤◌, List, [], ◌∷◌, length, Some, None, Option, sym, ap, ◌∙◌, inl, inr, arith}
use mathlib.Core.Option.{some}
use Rattle.hol.specs.Syntax.{Ty, Tm, const}
use Rattle.hol.specs.Theory.{Theory, const_at}
use Rattle.store.specs.Measures.{nodes_ty, nodes_tys, nodes_tm}
use Rattle.store.specs.State.{Contents, State}
use Rattle.store.specs.Views.{ViewFree, ViewConstant, ViewLambda}
use Rattle.lent.specs.Piles.{Pile, Pops}
use Rattle.typing.specs.Built.{types_built}
use Rattle.typing.specs.Typed.{Tight, nodes_of, declared}
use Rattle.typing.specs.Machine.{Path, scope, around, Holds, holds_root, holds_func, holds_arg, holds_body, Point, down, up, At, at_down, at_up, Stuck}
use Rattle.typing.specs.declared.turn.Turn.TheVariants.{Down, Up}
use Rattle.waits.specs.Codes.{Decodes}
use Rattle.waits.specs.declared.Wait.{Wait}
use Rattle.waits.specs.declared.Wait.TheVariants.{Argument, Body}
use Rattle.typing.proofs.Sizes.{nodes_positive, declared-fits}
use Rattle.typing.proofs.Stack.{stack_length, scope-length, Top, top, top-arg, top-body}

-- the newest word was popped
pub pops_rest : (f g : Pile) (r : Option ℕ) {n : ℕ} {qs : List ℕ} → Pops f g r → f.held ≡ n ∷ qs → g.held ≡ qs
pops_rest f g None {n} {qs} (e, z) h = let l = ap length (sym z ∙ h) in absurd (omega arith)
pops_rest f g (Some m) {n} {qs} (e, z, w) h = cc

-- what the numbers at hand stand for
pub down-stands : {c : Contents} {ws ss : List ℕ} {n : ℕ} {x : Point} → At c ws ss (Some (Down n)) x → (u : Tm) × (c.term n ≡ some u)
down-stands (at_down {t = u} e h) = (u, e)

pub up_stands : {c : Contents} {ws ss : List ℕ} {n : ℕ} {x : Point} → At c ws ss (Some (Up n)) x → (a : Ty) × (c.typ n ≡ some a)
up_stands (at_up {a = a} e h) = (a, e)

pub function_stands : {c : Contents} {ws ss vs : List ℕ} {n k kept : ℕ} {r : Wait} {x : Point} → At c ws ss (Some (Up n)) x → ws ≡ k ∷ kept ∷ vs
    → Decodes k r → r ≡ Argument → (a : Ty) × (c.typ kept ≡ some a)
function_stands {c} {ss = ss} {vs = vs} {kept = kept} (at_up e h) q waits z = of (rw z at (top h q waits))
  where
    of : {p : Path} → Top c kept vs ss Argument p → (a : Ty) × (c.typ kept ≡ some a)
    of (top-arg {a = a} f i) = (a, f)

-- a stack has an even number of words
even : {c : Contents} {ws ss : List ℕ} {p : Path} → Holds c ws ss p → length ws < 2 → ws ≡ []
even (holds_root w q) l = w
even (holds_func e f h) l = let k = ap length e in absurd (omega arith)
even (holds_arg e f h) l = let k = ap length e in absurd (omega arith)
even (holds_body e q f h) l = let k = ap length e in absurd (omega arith)

pub odd_words : {c : Contents} {ws ss : List ℕ} {n : ℕ} {x : Point} → At c ws ss (Some (Up n)) x → length ws < 2 → ws ≡ []
odd_words (at_up e h) l = even h l

module _ (th : Theory) (stack scratch places : ℕ) (s : State) (ws ss : List ℕ) (n : ℕ) where
  -- GOING DOWN
  pub free_short : {x : Point} {k m : ℕ} → At s.contents ws ss (Some (Down n)) x → ((u : Tm) → s.contents.term n ≡ some u → ViewFree s.contents k m u)
      → ((a : Ty) → s.contents.typ m ≡ some a → stack < length ws + nodes_ty a) → Stuck th stack scratch places s x
  free_short (at_down {t = u} e h) says short =
      let v = says u e in
      let l = short v.ty v.ty_is in
      let i = stack_length h in
      let j = ap nodes_tm v.is in
      inl (inl (inl (omega arith)))

  pub lambda_short : {x : Point} {m b : ℕ} → At s.contents ws ss (Some (Down n)) x → ((u : Tm) → s.contents.term n ≡ some u → ViewLambda s.contents m b u)
      → ((a : Ty) → s.contents.typ m ≡ some a → stack < length ws + nodes_ty a) → Stuck th stack scratch places s x
  lambda_short (at_down {t = u} e h) says short =
      let v = says u e in
      let l = short v.ty v.ty_is in
      let i = stack_length h in
      let j = ap nodes_tm v.is in
      inl (inl (inl (omega arith)))

  -- no place for what waits
  pub wait_short : {x : Point} → At s.contents ws ss (Some (Down n)) x → stack < length ws + 2 → Stuck th stack scratch places s x
  wait_short (at_down {t = u} e h) l = let i = stack_length h in let j = nodes_positive u in inl (inl (inl (omega arith)))

  -- no place in the scope
  pub scope-short : {x : Point} → At s.contents ws ss (Some (Down n)) x → places < length ss + 1 → Stuck th stack scratch places s x
  scope-short (at_down {t = u} e h) l = let i = scope-length h in let j = nodes_positive u in inr (omega arith)

  pub constant_short : {x : Point} {k as₁ : ℕ} → At s.contents ws ss (Some (Down n)) x → ((u : Tm) → s.contents.term n ≡ some u → ViewConstant s.contents k as₁ u)
      → ((u : Tm) (v : ViewConstant s.contents k as₁ u) → Tight (stack - length ws) scratch (declared th v.name + nodes_tys v.args) s.left (nodes_of (const_at th v.name v.args)))
      → Stuck th stack scratch places s x
  constant_short {k = k} {as₁ = as₁} (at_down {t = u} {p = p} e h) says short =
      let v = says u e in
      of v (short u v) (stack_length h) (ap nodes_tm v.is) (ap (types_built th (scope p)) v.is)
    where
      of : (v : ViewConstant s.contents k as₁ u) → Tight (stack - length ws) scratch (declared th v.name + nodes_tys v.args) s.left (nodes_of (const_at th v.name v.args))
          → length ws ≤ 2 * around p → nodes_tm u ≡ nodes_tm (const v.name v.args) → types_built th (scope p) u ≡ types_built th (scope p) (const v.name v.args)
          → Stuck th stack scratch places s (down p u)
      of v (inl (inl l)) i j b = let d = declared-fits th v.name in inl (inl (inl (omega arith)))
      of v (inl (inr l)) i j b = let d = declared-fits th v.name in inl (inl (inr (omega arith)))
      of v (inr l) i j b = inl (inr (omega arith))

  -- GOING UP
  module _ (k kept : ℕ) (vs : List ℕ) (newest : ws ≡ k ∷ kept ∷ vs) where
    pub argument_short : {x : Point} → At s.contents ws ss (Some (Up n)) x → stack < length vs + 2 → Stuck th stack scratch places s x
    argument_short (at_up e h) l = let i = stack_length h in let j = ap length newest in inl (inl (inl (omega arith)))

    pub function_short : {x : Point} {r : Wait} → Decodes k r → At s.contents ws ss (Some (Up n)) x → r ≡ Body
        → ((c d : Ty) → s.contents.typ kept ≡ some c → s.contents.typ n ≡ some d → s.left < 3) → Stuck th stack scratch places s x
    function_short waits (at_up {a = a} e h) z short = of (rw z at (top h newest waits))
      where
        of : {p : Path} → Top s.contents kept vs ss Body p → Stuck th stack scratch places s (up p a)
        of (top-body {a = b} f j l) = let q = short b a j e in inl (inr (omega arith))
