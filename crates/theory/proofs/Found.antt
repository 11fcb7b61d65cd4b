-- What the newest declaration of a name says is what the definitions look up.
use Rattle.std.proofs.Common.{◌≡◌, ℕ, Bool, true, false, cond, [], ◌∷◌, Some, None, Option as Maybe, sym, refl}
use Rattle.std.specs.Option.{is_some as there}
use mathlib.Core.Option.{Option, some, none}
use Rattle.hol.specs.Base.{bind, is_some, Word, same_word}
use Rattle.hol.specs.Syntax.{Ty, Seq, w_bool, w_fun, w_eq, w_choice}
use Rattle.hol.specs.Theory.{Decl, d_type, d_const, d_def, d_axiom, d_thm, Theory, const_of_decl}
use Rattle.hol.specs.Theory.{declared_arity, type_arity, declared_const, const_ty, known}
use Rattle.hol.specs.Kernel.{Definition as Defined, find_def}
use Rattle.store.specs.State.{Contents}
use Rattle.signature.specs.Finds.{Finds}
use Rattle.theory.specs.declared.declaration.Declaration.{Declaration}
use Rattle.theory.specs.declared.declaration.Declaration.TheVariants.{«Type» as Typename, Constant, Definition, Axiom, Theorem}
use Rattle.theory.specs.Rows.{Says}
use Rattle.theory.specs.Lookups.{newest, Picks, Part, DefAt, SeqAt}

-- does f say something of it?
abbrev pub told : {A : Type 0} → (Decl → Option A) → Decl → Bool
told f d = is_some (f d)

-- what is found in the newest declaration, or in the older ones
bind_cond : {A C : Type 0} (b : Bool) (x : A) (o : Option A) (f : A → Option C) → bind (cond b (some x) o) f ≡ cond b (f x) (bind o f)
bind_cond true x o f = refl
bind_cond false x o f = refl

-- EACH LOOKUP is what the newest declaration of the name says that says something
abbrev arity_of : Decl → Option ℕ
arity_of (d_type w) = some 0
arity_of _ = none

arity_newest : (th : Theory) (w : Word) → declared_arity th w ≡ bind (newest (told arity_of) w th) arity_of
arity_newest [] w = refl
arity_newest (d_type v ∷ th) w = rw (arity_newest th w) (sym (bind_cond (same_word w v) (d_type v) (newest (told arity_of) w th) arity_of))
arity_newest (_ ∷ th) w = arity_newest th w

abbrev ty_of : Decl → Option Ty
ty_of d = bind (const_of_decl d) (λ k. some k.ty)

const-newest : (th : Theory) (w : Word) → declared_const th w ≡ bind (newest (told ty_of) w th) ty_of
const-newest [] w = refl
const-newest (d_const v a ∷ th) w = rw (const-newest th w) (sym (bind_cond (same_word w v) (d_const v a) (newest (told ty_of) w th) ty_of))
const-newest (d_def v a t ∷ th) w = rw (const-newest th w) (sym (bind_cond (same_word w v) (d_def v a t) (newest (told ty_of) w th) ty_of))
const-newest (_ ∷ th) w = const-newest th w

abbrev def_of : Decl → Option Defined
def_of (d_def w a t) = some (record { ty = a; body = t })
def_of _ = none

def_newest : (th : Theory) (w : Word) → find_def th w ≡ bind (newest (told def_of) w th) def_of
def_newest [] w = refl
def_newest (d_def v a t ∷ th) w = rw (def_newest th w) (sym (bind_cond (same_word w v) (d_def v a t) (newest (told def_of) w th) def_of))
def_newest (_ ∷ th) w = def_newest th w

abbrev seq_of : Decl → Option Seq
seq_of (d_axiom w t) = some (record { hyps = []; concl = t })
seq_of (d_thm w s) = some s
seq_of _ = none

seq-newest : (th : Theory) (w : Word) → known th w ≡ bind (newest (told seq_of) w th) seq_of
seq-newest [] w = refl
seq-newest (d_axiom v t ∷ th) w = rw (seq-newest th w) (sym (bind_cond (same_word w v) (d_axiom v t) (newest (told seq_of) w th) seq_of))
seq-newest (d_thm v s ∷ th) w = rw (seq-newest th w) (sym (bind_cond (same_word w v) (d_thm v s) (newest (told seq_of) w th) seq_of))
seq-newest (_ ∷ th) w = seq-newest th w

-- WHAT IS ANSWERED at a declaration by numbers, where something is
abbrev pub arity_at : Declaration → Maybe ℕ
arity_at (Typename n) = Some 0
arity_at _ = None

abbrev pub type_at : Declaration → Maybe ℕ
type_at (Constant n a) = Some a
type_at (Definition n a t) = Some a
type_at _ = None

abbrev pub def_at : Declaration → Maybe (ℕ × ℕ)
def_at (Definition n a t) = Some (a, t)
def_at _ = None

-- an axiom has no assumptions
abbrev pub seq_at : ℕ → Declaration → Maybe (ℕ × ℕ)
seq_at m (Axiom n t) = Some (m, t)
seq_at m (Theorem n h t) = Some (h, t)
seq_at m _ = None

module _ (c : Contents) where
  arity_gives : (r : Declaration) (d : Decl) → Says c r d → Finds (λ n k. k ≡ n) (arity_of d) (arity_at r)
  arity_gives (Typename n) (d_type w) s = record { what = 0; is = refl; stands = refl }
  arity_gives (Constant n a) (d_const w ty) s = refl
  arity_gives (Definition n a t) (d_def w ty body) s = refl
  arity_gives (Axiom n t) (d_axiom w concl) s = refl
  arity_gives (Theorem n h t) (d_thm w q) s = refl
  arity_gives _ _ s = absurd s

  type_gives : (r : Declaration) (d : Decl) → Says c r d → Finds (λ b k. c.typ k ≡ some b) (ty_of d) (type_at r)
  type_gives (Typename n) (d_type w) s = refl
  type_gives (Constant n a) (d_const w ty) s = record { what = ty; is = refl; stands = s.1 }
  type_gives (Definition n a t) (d_def w ty body) s = record { what = ty; is = refl; stands = s.1 }
  type_gives (Axiom n t) (d_axiom w concl) s = refl
  type_gives (Theorem n h t) (d_thm w q) s = refl
  type_gives _ _ s = absurd s

  def_gives : (r : Declaration) (d : Decl) → Says c r d → Finds (DefAt c) (def_of d) (def_at r)
  def_gives (Typename n) (d_type w) s = refl
  def_gives (Constant n a) (d_const w ty) s = refl
  def_gives (Definition n a t) (d_def w ty body) s = record { what = record { ty = ty; body = body }; is = refl; stands = (s.1, s.2) }
  def_gives (Axiom n t) (d_axiom w concl) s = refl
  def_gives (Theorem n h t) (d_thm w q) s = refl
  def_gives _ _ s = absurd s

  seq_gives : (m : ℕ) → c.terms m ≡ some [] → (r : Declaration) (d : Decl) → Says c r d → Finds (SeqAt c) (seq_of d) (seq_at m r)
  seq_gives m e (Typename n) (d_type w) s = refl
  seq_gives m e (Constant n a) (d_const w ty) s = refl
  seq_gives m e (Definition n a t) (d_def w ty body) s = refl
  seq_gives m e (Axiom n t) (d_axiom w concl) s = record { what = record { hyps = []; concl = concl }; is = refl; stands = (e, s.1) }
  seq_gives m e (Theorem n h t) (d_thm w q) s = record { what = q; is = refl; stands = (s.1, s.2) }
  seq_gives m e _ _ s = absurd s

  -- g gives numbers for what f says, and the answers are those that g gives
  module _ {A X : Type 0} (P : A → X → Type 0) (f : Decl → Option A) (g : Declaration → Maybe X)
      (gives : (r : Declaration) (d : Decl) → Says c r d → Finds P (f d) (g r)) where
    alike : (o : Option A) (m : Maybe X) → Finds P o m → there m ≡ is_some o
    alike o None e = rw e refl
    alike o (Some x) k = rw k.is refl

    module _ (post : Declaration → Maybe X → Type 0) (does : (r : Declaration) (o : Maybe X) → post r o → o ≡ g r) where
      parts : (o : Option Decl) (m : Maybe X) → Finds (Part c post) o m → Finds P (bind o f) m
      parts o None e = rw e refl
      parts o (Some x) k =
          let t = k.stands in
          let h : Finds P (f k.what) (Some x) = rw (← does t.numbers (Some x) t.answers) at (gives t.numbers k.what t.says) in
          rw k.is h

      looked_up : (o : Option Decl) (m : Maybe X) → (Picks c post (told f) → Finds (Part c post) o m) → Finds P (bind o f) m
      looked_up o m h =
          parts o m (h (record { picks = λ r d q s p. rw (does r q p) (alike (f d) (g r) (gives r d s)) }))

-- THE LOOKUPS: m is the answer at the newest declaration of which something is said
module _ (c : Contents) (th : Theory) (w : Word) where
  pub arity_found : (m : Maybe ℕ) {post : Declaration → Maybe ℕ → Type 0}
      → (Picks c post (told arity_of) → Finds (Part c post) (newest (told arity_of) w th) m)
      → ((r : Declaration) (o : Maybe ℕ) → post r o → o ≡ arity_at r) → Finds (λ n k. k ≡ n) (declared_arity th w) m
  arity_found m h does = rw (arity_newest th w) (looked_up c _ arity_of arity_at (arity_gives c) _ does _ _ h)

  pub const-found : (m : Maybe ℕ) {post : Declaration → Maybe ℕ → Type 0}
      → (Picks c post (told ty_of) → Finds (Part c post) (newest (told ty_of) w th) m)
      → ((r : Declaration) (o : Maybe ℕ) → post r o → o ≡ type_at r) → Finds (λ b k. c.typ k ≡ some b) (declared_const th w) m
  const-found m h does = rw (const-newest th w) (looked_up c _ ty_of type_at (type_gives c) _ does _ _ h)

  pub def_found : (m : Maybe (ℕ × ℕ)) {post : Declaration → Maybe (ℕ × ℕ) → Type 0}
      → (Picks c post (told def_of) → Finds (Part c post) (newest (told def_of) w th) m)
      → ((r : Declaration) (o : Maybe (ℕ × ℕ)) → post r o → o ≡ def_at r) → Finds (DefAt c) (find_def th w) m
  def_found m h does = rw (def_newest th w) (looked_up c _ def_of def_at (def_gives c) _ does _ _ h)

  pub seq_found : (m : Maybe (ℕ × ℕ)) {post : Declaration → Maybe (ℕ × ℕ) → Type 0} (n : ℕ) → c.terms n ≡ some []
      → (Picks c post (told seq_of) → Finds (Part c post) (newest (told seq_of) w th) m)
      → ((r : Declaration) (o : Maybe (ℕ × ℕ)) → post r o → o ≡ seq_at n r) → Finds (SeqAt c) (known th w) m
  seq_found m n e h does = rw (seq-newest th w) (looked_up c _ seq_of (seq_at n) (seq_gives c n e) _ does _ _ h)

module _ (th : Theory) (w : Word) where
  -- behind the names that are always there
  pub arity_declared : false ≡ same_word w w_bool → false ≡ same_word w w_fun → type_arity th w ≡ declared_arity th w
  arity_declared d e = rw (sym d, sym e)

  pub const-declared : false ≡ same_word w w_eq → false ≡ same_word w w_choice → const_ty th w ≡ declared_const th w
  const-declared d e = rw (sym d, sym e)
