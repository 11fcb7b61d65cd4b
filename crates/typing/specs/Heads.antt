-- A type's own name, without its arguments.
use Rattle.std.specs.Prelude.{Bool, true, false, nat_eq}
use Rattle.hol.specs.Base.{option}
use Rattle.hol.specs.Syntax.{Ty, tyvar, tyapp, count_tys}
use Rattle.hol.specs.Theory.{Theory, type_arity}

-- it is declared and takes as many arguments as there are
abbrev pub head_ok : Theory → Ty → Bool
head_ok th (tyvar w) = true
head_ok th (tyapp w as₁) = option (type_arity th w) false (nat_eq (count_tys as₁))
