-- What is looked for in a table, and what is found.
use Rattle.std.specs.Prelude.{◌≡◌, ℕ, Bool, cond, ◌&&◌, [], ◌∷◌, Some, Option as Maybe}
use Rattle.std.specs.Option.{is_some}
use Rattle.std.proofs.Math.Option.{Option, some, none}
use Rattle.hol.specs.Base.{Word, same_word}
use Rattle.hol.specs.Syntax.{Seq}
use Rattle.hol.specs.Theory.{Decl, d_type, d_const, d_def, d_axiom, d_thm, Theory}
use Rattle.hol.specs.Kernel.{Definition as Defined}
use Rattle.store.specs.State.{Contents}
use Rattle.theory.specs.declared.declaration.Declaration.{Declaration}
use Rattle.theory.specs.Rows.{Says}

abbrev pub decl_name : Decl → Word
decl_name (d_type w) = w
decl_name (d_const w a) = w
decl_name (d_def w a t) = w
decl_name (d_axiom w t) = w
decl_name (d_thm w s) = w

-- the newest declaration of the name w among those that are wanted
abbrev pub newest : (Decl → Bool) → Word → Theory → Option Decl
newest wanted w [] = none
newest wanted w (d ∷ th) = cond (wanted d && same_word w (decl_name d)) (some d) (newest wanted w th)

-- an answer comes at the declarations that are wanted, and at no other
pub record Picks {X : Type 0} (c : Contents) (post : Declaration → Maybe X → Type 0) (wanted : Decl → Bool) : Type 0 where
  pub picks : (r : Declaration) (d : Decl) (o : Maybe X) → Says c r d → post r o → is_some o ≡ wanted d

-- x is the answer at numbers for the declaration d
pub record Part {X : Type 0} (c : Contents) (post : Declaration → Maybe X → Type 0) (d : Decl) (x : X) : Type 0 where
  pub numbers : Declaration
  pub says : Says c numbers d
  pub answers : post numbers (Some x)

-- two numbers for the type and the body of a definition
abbrev pub DefAt : Contents → Defined → ℕ × ℕ → Type 0
DefAt c d p = (c.typ p.0 ≡ some d.ty) × (c.term p.1 ≡ some d.body)

-- two numbers for the assumptions and the conclusion of a sequent
abbrev pub SeqAt : Contents → Seq → ℕ × ℕ → Type 0
SeqAt c s p = (c.terms p.0 ≡ some s.hyps) × (c.term p.1 ≡ some s.concl)
