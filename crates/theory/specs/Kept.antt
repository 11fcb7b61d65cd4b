-- While the store grows, a table stands for the theory that it stood for.
use Rattle.std.specs.Prelude.{ℕ, List, [], ◌∷◌}
use Rattle.hol.specs.Theory.{Decl, d_type, d_const, d_def, d_axiom, d_thm, Theory}
use Rattle.store.specs.State.{Contents, Keeps}
use Rattle.signature.specs.Meaning.{Meaning}
use Rattle.theory.specs.declared.declaration.Declaration.{Declaration}
use Rattle.theory.specs.declared.declaration.Declaration.TheVariants.{«Type» as Typename, Constant, Definition, Axiom, Theorem}
use Rattle.theory.specs.declared.table.Decls.{Decls}
use Rattle.theory.specs.Rows.{Says, Table}
use Rattle.theory.specs.Knows.{held, Knows}

pub says_kept : {c e : Contents} → Keeps c e → (r : Declaration) (d : Decl) → Says c r d → Says e r d
says_kept k (Typename n) (d_type w) s = k.word _ _ s
says_kept k (Constant n a) (d_const w ty) s = (k.word _ _ s.0, k.typ _ _ s.1)
says_kept k (Definition n a t) (d_def w ty body) s = (k.word _ _ s.0, k.typ _ _ s.1, k.term _ _ s.2)
says_kept k (Axiom n t) (d_axiom w concl) s = (k.word _ _ s.0, k.term _ _ s.1)
says_kept k (Theorem n h t) (d_thm w q) s = (k.word _ _ s.0, k.terms _ _ s.1, k.term _ _ s.2)
says_kept k _ _ s = absurd s

pub table_kept : {c e : Contents} → Keeps c e → (ws : List ℕ) (th : Theory) → Table c ws th → Table e ws th
table_kept k [] [] x = tt
table_kept k (s ∷ f ∷ n ∷ j ∷ ws) (d ∷ th) x = (says_kept k _ d x.0, table_kept k ws th x.1)
table_kept k _ _ x = absurd x

pub knows_kept : (t : Decls) (c e : Contents) (th : Theory) → Keeps c e → Knows t c th → Knows t e th
knows_kept t c e th k x =
    record {
      count = x.count;
      table = table_kept k (held t) th x.table;
      eq_type = k.typ _ _ x.eq_type;
      choice_type = k.typ _ _ x.choice_type;
    }

-- which theory a table is
abbrev pub theory_of : Decls → Meaning
theory_of t = record { knows = Knows t; kept = knows_kept t }
