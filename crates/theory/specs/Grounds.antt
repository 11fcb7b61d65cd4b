-- Names and types that are always there.
use Rattle.std.specs.Prelude.{◌≡◌}
use Rattle.std.proofs.Math.Option.{some}
use Rattle.hol.specs.Syntax.{bool, w_fun, w_eq, w_choice}
use Rattle.store.specs.State.{Contents, Keeps}
use Rattle.theory.specs.declared.ground.Ground.{Ground}

pub record Grounded (c : Contents) (g : Ground) : Type 0 where
  pub arrow : c.word g.arrow ≡ some w_fun
  pub boolean : c.typ g.boolean ≡ some bool
  pub equality : c.word g.equality ≡ some w_eq
  pub choice : c.word g.choice ≡ some w_choice

pub grounded_kept : {c d : Contents} {g : Ground} → Keeps c d → Grounded c g → Grounded d g
grounded_kept k h =
    record {
      arrow = k.word _ _ h.arrow;
      boolean = k.typ _ _ h.boolean;
      equality = k.word _ _ h.equality;
      choice = k.word _ _ h.choice;
    }
