-- Which step and which command of the definitions a step and a command by numbers stand for.
use Rattle.std.specs.Prelude.{◌≡◌, List, ℕ, ◌≤◌, length, take}
use Rattle.std.proofs.Math.Option.{some}
use Rattle.hol.specs.Base.{Word}
use Rattle.hol.specs.Syntax.{Ty, Tys, Tm, TySubst, Subst}
use Rattle.hol.specs.Theory.{Decl, d_type, d_const, d_def, d_axiom}
use Rattle.hol.specs.Kernel as hol
use Rattle.hol.specs.Text.{Sexps}
use Rattle.store.specs.Measures.{capped}
use Rattle.store.specs.State.{Contents}
use Rattle.rebuild_types.specs.Entries.{TyEntries}
use Rattle.rebuild.specs.Instances.{Entries}
use Rattle.steps.specs.declared.NameId.{NameId}
use Rattle.steps.specs.declared.TypeId.{TypeId}
use Rattle.steps.specs.declared.TypesId.{TypesId}
use Rattle.steps.specs.declared.TermId.{TermId}
use Rattle.steps.specs.declared.Place.{Place}
use Rattle.steps.specs.declared.Step.{Step}
use Rattle.steps.specs.declared.Step.TheVariants.{Refl, Trans, Use, Lam, Beta, Assume, Eqmp, Anti, Inst, Types, Eta, Choose, Unfold, Known}
use Rattle.steps.specs.declared.Command.{Command}
use Rattle.steps.specs.declared.Command.TheVariants.{«Type» as TypeCommand, Const, Def, Axiom, Thm}

abbrev pub NameIs : Contents → NameId → Word → Type 0
NameIs c x w = c.word x.0 ≡ some w

abbrev pub TypeIs : Contents → TypeId → Ty → Type 0
TypeIs c a b = c.typ a.0 ≡ some b

abbrev pub TypesAre : Contents → TypesId → Tys → Type 0
TypesAre c l bs = c.types l.0 ≡ some bs

abbrev pub TermIs : Contents → TermId → Tm → Type 0
TermIs c t u = c.term t.0 ≡ some u

-- a place as a word of 64 bits holds it
abbrev pub PlaceIs : Place → ℕ → Type 0
PlaceIs i n = i.0 ≡ capped n

-- WHAT A STEP HAS
pub record OneTerm (f : Tm → hol.Step) (c : Contents) (t : TermId) (s : hol.Step) : Type 0 where
  pub tm : Tm
  pub is : s ≡ f tm
  pub tm_is : TermIs c t tm

pub record TwoTerms (f : Tm → Tm → hol.Step) (c : Contents) (t u : TermId) (s : hol.Step) : Type 0 where
  pub first : Tm
  pub second : Tm
  pub is : s ≡ f first second
  pub first_is : TermIs c t first
  pub second_is : TermIs c u second

pub record TwoPlaces (f : ℕ → ℕ → hol.Step) (i j : Place) (s : hol.Step) : Type 0 where
  pub first : ℕ
  pub second : ℕ
  pub is : s ≡ f first second
  pub first_is : PlaceIs i first
  pub second_is : PlaceIs j second

pub record Variable (c : Contents) (x : NameId) (a : TypeId) (i : Place) (s : hol.Step) : Type 0 where
  pub name : Word
  pub ty : Ty
  pub place : ℕ
  pub is : s ≡ hol.s_lam name ty place
  pub name_is : NameIs c x name
  pub ty_is : TypeIs c a ty
  pub place_is : PlaceIs i place

-- the first n of the words ws are the entries
pub record TermEntries (c : Contents) (ws : List ℕ) (i : Place) (n : ℕ) (s : hol.Step) : Type 0 where
  pub place : ℕ
  pub entries : Subst
  pub is : s ≡ hol.s_inst place entries
  pub place_is : PlaceIs i place
  pub entries_are : Entries c (take n ws) entries
  pub within : n ≤ length ws

pub record TypeEntries (c : Contents) (ws : List ℕ) (i : Place) (n : ℕ) (s : hol.Step) : Type 0 where
  pub place : ℕ
  pub entries : TySubst
  pub is : s ≡ hol.s_types place entries
  pub place_is : PlaceIs i place
  pub entries_are : TyEntries c (take n ws) entries
  pub within : n ≤ length ws

pub record Constant (c : Contents) (x : NameId) (l : TypesId) (s : hol.Step) : Type 0 where
  pub name : Word
  pub args : Tys
  pub is : s ≡ hol.s_unfold name args
  pub name_is : NameIs c x name
  pub args_are : TypesAre c l args

pub record Named (c : Contents) (x : NameId) (s : hol.Step) : Type 0 where
  pub name : Word
  pub is : s ≡ hol.s_known name
  pub name_is : NameIs c x name

-- the step, with the entries in the words ws, stands for s
abbrev pub StepIs : Contents → List ℕ → Step → hol.Step → Type 0
StepIs c ws (Refl t) s = OneTerm hol.s_refl c t s
StepIs c ws (Trans i j) s = TwoPlaces hol.s_trans i j s
StepIs c ws (Use i j) s = TwoPlaces hol.s_use i j s
StepIs c ws (Lam x a i) s = Variable c x a i s
StepIs c ws (Beta t) s = OneTerm hol.s_beta c t s
StepIs c ws (Assume t) s = OneTerm hol.s_assume c t s
StepIs c ws (Eqmp i j) s = TwoPlaces hol.s_eqmp i j s
StepIs c ws (Anti i j) s = TwoPlaces hol.s_anti i j s
StepIs c ws (Inst i n) s = TermEntries c ws i n s
StepIs c ws (Types i n) s = TypeEntries c ws i n s
StepIs c ws (Eta t) s = OneTerm hol.s_eta c t s
StepIs c ws (Choose t u) s = TwoTerms hol.s_some c t u s
StepIs c ws (Unfold x l) s = Constant c x l s
StepIs c ws (Known x) s = Named c x s

-- WHAT A COMMAND ASKS FOR: a declaration, or the proof of a theorem by steps
pub data Request : Type 0 where
  declare : Decl → Request
  prove : Word → Sexps → Request

-- what a command by numbers asks for; the steps of a theorem are the trees us
abbrev pub CommandIs : Contents → Command → Request → Type 0
CommandIs c (TypeCommand x) r = (w : Word) × (r ≡ declare (d_type w)) × NameIs c x w
CommandIs c (Const x a) r = (w : Word) × (b : Ty) × (r ≡ declare (d_const w b)) × NameIs c x w × TypeIs c a b
CommandIs c (Def x a t) r = (w : Word) × (b : Ty) × (u : Tm) × (r ≡ declare (d_def w b u)) × NameIs c x w × TypeIs c a b × TermIs c t u
CommandIs c (Axiom x t) r = (w : Word) × (u : Tm) × (r ≡ declare (d_axiom w u)) × NameIs c x w × TermIs c t u
CommandIs c (Thm x) r = (w : Word) × (us : Sexps) × (r ≡ prove w us) × NameIs c x w
