-- Which theory a table stands for, and what adding a declaration does to it.
use Rattle.std.specs.Prelude.{◌≡◌, ℕ, ◌+◌, ◌*◌, ◌<◌, List, ◌∷◌, length, take, reverse, Ok, Err, Result}
use Rattle.std.proofs.Math.Option.{some}
use Rattle.lent.specs.declared.NoRoom.{NoRoom}
use Rattle.hol.specs.Syntax.{tyvar, fun, bool, w_a}
use Rattle.hol.specs.Theory.{Decl, Theory}
use Rattle.store.specs.State.{Contents}
use Rattle.theory.specs.declared.declaration.Declaration.{Declaration}
use Rattle.theory.specs.declared.table.Decls.{Decls}
use Rattle.lent.specs.Piles.{onto}
use Rattle.theory.specs.Rows.{words_of, Says, Table}

-- how many declarations a table has
abbrev pub count : Decls → ℕ
count t = t.used

-- the words of its declarations, the newest first
abbrev pub held : Decls → List ℕ
held t = reverse (take (4 * t.used) t.words.now)

-- where numbers stand for these contents, the table stands for this theory
pub record Knows (t : Decls) (c : Contents) (th : Theory) : Type 0 where
  pub count : t.used ≡ length th
  pub table : Table c (held t) th
  pub eq_type : c.typ t.ground.equality_type ≡ some (fun (tyvar w_a) (fun (tyvar w_a) bool))
  pub choice_type : c.typ t.ground.choice_type ≡ some (fun (fun (tyvar w_a) bool) (tyvar w_a))

-- a declaration was added: the theory has one more, the newest; its words are on the table, and what is always there is the same
pub record Added (r : Declaration) (s t : Decls) : Type 0 where
  pub count : count t ≡ count s + 1
  pub held : held t ≡ onto (words_of r) (held s)
  pub ground : t.ground ≡ s.ground
  pub len : length t.words.now ≡ length s.words.now
  pub knows : (c : Contents) (th : Theory) (d : Decl) → Knows s c th → Says c r d → Knows t c (d ∷ th)

-- there was no place for four words, and nothing changed
pub record Full (s t : Decls) : Type 0 where
  pub short : length s.words.now < 4 * (s.used + 1)
  pub same : t ≡ s
  pub used : t.used ≡ s.used
  pub words : t.words.now ≡ s.words.now
  pub knows : (c : Contents) (th : Theory) → Knows s c th → Knows t c th

-- a call that adds a declaration, by its answer
abbrev pub Adds : Declaration → Decls → Decls → Result Unit NoRoom → Type 0
Adds r s t (Ok x) = Added r s t
Adds r s t (Err e) = Full s t
