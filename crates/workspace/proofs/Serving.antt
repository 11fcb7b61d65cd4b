-- Answers that tell want of room from there being nothing, and what was short for a part of a call is short for the whole.
use Rattle.std.proofs.Common.{◌≡◌, ℕ, ◌+◌, ◌*◌, ◌<◌, ◌≤◌, Bool, true, ◌≢◌, false, ◌⊎◌, Some, None, Ok, Err, Option, Result, refl, ap, ◌∙◌, inl, inr, arith}
use Rattle.std.specs.Result.{IsErrAnd}
use Rattle.std.specs.Option.{ok_or}
use Rattle.std.proofs.lemmas.Result.{err_from_is_err_and}
use mathlib.Core.Option.{Option as Maybe, none, some}
use Rattle.hol.specs.Syntax.{Ty, w_eq}
use Rattle.hol.specs.Theory.{Theory}
use Rattle.store.specs.State.{State, Grows}
use Rattle.store.specs.Builds.{Made}
use Rattle.lent.specs.Answers.{Answers}
use Rattle.lent.specs.declared.NoRoom.{NoRoom as Lent}
use Rattle.typing.specs.Typed.{Tight, Typed}
use Rattle.typing.specs.Machine.{Cramped, widest}
use Rattle.typing.proofs.Sizes.{declared-fits}
use Rattle.workspace.specs.declared.refusal.Refusal.{Refusal}
use Rattle.workspace.specs.declared.refusal.Refusal.TheVariants.{Unfit, NoRoom}
use Rattle.workspace.specs.Refusals.{Lacks, Serves, served, nothing, unserved, Tests, passed, failed, untested}

-- what comes of a want of room that is handed on
pub no_room : {T : Type 0} (r : Result T Refusal) → IsErrAnd r (λ y. y ≡ NoRoom) → r ≡ Err NoRoom
no_room r h = let (y, e, q) = err_from_is_err_and r h in e ∙ ap Err q

abbrev fault : {T : Type 0} → Result T Refusal → Refusal
fault (Ok x) = NoRoom
fault (Err e) = e

-- what comes of a part that is not there
pub misfit : {T X : Type 0} {e : Refusal} {o : Option X} (r : Result T Refusal) → IsErrAnd r (λ y. y ≡ e) → Err e ≡ ok_or o Unfit → o ≡ None → r ≡ Err Unfit
misfit {X = X} {e = e} {o = o} r h v n =
    let (y, is, same) = err_from_is_err_and r h in
    let q : ◌≡◌ {A = Result X Refusal} (Err e) (Err Unfit) = v ∙ ap (λ p. ok_or p Unfit) n in
    is ∙ ap Err (same ∙ ap fault q)

-- what is short for less is short for more
pub lacks_more : {w m n l a b : ℕ} → m ≤ n → a ≤ b → Lacks w m l a → Lacks w n l b
lacks_more h k (inl x) = inl (omega arith)
lacks_more h k (inr x) = inr (omega arith)

-- what was short after so much was spent, out of the same number of words
pub lacks_after : (w v m n l k a b : ℕ) → v ≡ w → m ≤ n → k + a ≤ l + b → Lacks v m l a → Lacks w n k b
lacks_after w v m n l k a b e p q (inl x) = inl (omega arith)
lacks_after w v m n l k a b e p q (inr x) = inr (omega arith)

-- a refusal that is handed on, of a call and of a test
pub refused : {A B X Y : Type 0} {lacks lacks₁ kept kept₁ : Type 0} {P : A → X → Type 0} {Q : B → Y → Type 0} {o : Maybe A} {q : Maybe B} (e : Refusal)
    → Serves lacks kept P o (Err e) → (lacks → lacks₁) → (kept → kept₁) → (o ≡ none → q ≡ none) → Serves lacks₁ kept₁ Q q (Err e)
refused Unfit (nothing k e) f h j = nothing (h k) (j e)
refused NoRoom (unserved l) f h j = unserved (f l)

pub unfit : {B Y : Type 0} {lacks lacks₁ kept : Type 0} {Q : B → Y → Type 0} {b : Bool} {q : Maybe B} (e : Refusal)
    → Tests lacks b (Err e) → (lacks → lacks₁) → kept → (b ≡ false → q ≡ none) → Serves lacks₁ kept Q q (Err e)
unfit Unfit (failed e) f k j = nothing k (j e)
unfit NoRoom (untested l) f k j = unserved (f l)

pub untested_too : {lacks lacks₁ : Type 0} {b d : Bool} (e : Refusal) → Tests lacks b (Err e) → (lacks → lacks₁) → (b ≡ false → d ≡ false) → Tests lacks₁ d (Err e)
untested_too Unfit (failed e) f j = failed (j e)
untested_too NoRoom (untested l) f j = untested (f l)

-- a call that refuses is a test that is not passed
pub not_passed : {A X : Type 0} {lacks kept : Type 0} {P : A → X → Type 0} {o : Maybe A} {b : Bool} (e : Refusal)
    → Serves lacks kept P o (Err e) → (o ≡ none → b ≡ false) → Tests lacks b (Err e)
not_passed Unfit (nothing k e) j = failed (j e)
not_passed NoRoom (unserved l) j = untested l

-- what became of the store, where room was not short
pub kept_of : {A X Y : Type 0} {lacks kept : Type 0} {P : A → X → Type 0} {o : Maybe A} (e : Refusal)
    → Serves lacks kept P o (Err e) → ◌≢◌ {A = Result Y Refusal} (Err e) (Err NoRoom) → kept
kept_of Unfit (nothing k e) n = k
kept_of NoRoom (unserved l) n = absurd (n refl)

-- an answer that goes on
pub answers_on : {X : Type 0} {short lacks : Type 0} {P Q : X → Type 0} (r : Result X Lent) → Answers short P r → (short → lacks)
    → ((x : X) → P x → Q x) → Answers lacks Q r
answers_on (Ok x) h f k = k x h
answers_on (Err e) h f k = f h

-- a type that was found, or none
pub finding : {lacks kept : Type 0} {Q : Ty → ℕ → Type 0} {a : Maybe Ty} (n : ℕ) (s t : State) (o : Option ℕ) → Typed n s t a o
    → (a ≡ none → Grows n s t → kept)
    → ((b : Ty) (k : ℕ) → a ≡ some b → Made n s t (λ c i. c.typ i ≡ some b) k → Q b k) → Serves lacks kept Q a (ok_or o Unfit)
finding n s t (Some x) h same yes₁ = let j = h.finds in served j.what j.is (yes₁ _ x j.is (record { grows = h.grows; stands = j.stands }))
finding n s t None h same yes₁ = nothing (same h.finds h.grows) h.finds

-- WHAT A CALL LACKED, with the whole slice as its stack: a word for each node, or four
pub lacks_one : {w m l a : ℕ} → (w < m) ⊎ (l < a) → Lacks w m l a
lacks_one (inl x) = inl (omega arith)
lacks_one (inr x) = inr x

pub lacks_four : (m : ℕ) {w l a : ℕ} → (w < 4 * m) ⊎ (l < a) → Lacks w m l a
lacks_four m (inl x) = inl (omega arith)
lacks_four m (inr x) = inr x

-- with the slice in two parts
pub lacks_tight : (w a b n m l c : ℕ) → w ≤ 2 * a + 1 → w ≤ 2 * b + 1 → n ≤ m → 1 ≤ m → Tight a b n l c → Lacks w m l c
lacks_tight w a b n m l c p q r o (inl (inl x)) = inl (omega arith)
lacks_tight w a b n m l c p q r o (inl (inr x)) = inl (omega arith)
lacks_tight w a b n m l c p q r o (inr x) = inr x

-- with the slice in three parts
pub lacks_cramped : (w a b s n d l c : ℕ) → w ≤ 3 * a + 2 → w ≤ 3 * b + 2 → w ≤ 3 * s + 2 → 1 ≤ n → Cramped a b s n d l c → Lacks w (n + d) l c
lacks_cramped w a b s n d l c p q r o (inl (inl (inl x))) = inl (omega arith)
lacks_cramped w a b s n d l c p q r o (inl (inl (inr x))) = inl (omega arith)
lacks_cramped w a b s n d l c p q r o (inl (inr x)) = inr x
lacks_cramped w a b s n d l c p q r o (inr x) = inl (omega arith)

-- the constants = and @ have a type in every theory
pub widest_positive : (th : Theory) → 1 ≤ widest th
widest_positive th = omega (arith, declared-fits th w_eq)

pub passed_of : {lacks : Type 0} {b : Bool} {x : Unit} → Tests lacks b (Ok x) → b ≡ true
passed_of (passed p) = p
