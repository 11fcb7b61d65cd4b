-- A term has a type if the type that was found is the same.
use Rattle.std.proofs.Common.{◌≡◌, false}
use mathlib.Core.Option.{some, none}
use Rattle.hol.specs.Syntax.{Ty, Tm, same_ty}
use Rattle.hol.specs.Theory.{Theory, type_of, has_type}

pub has_none : (th : Theory) (u : Tm) (b : Ty) → type_of th u ≡ none → has_type th u b ≡ false
has_none th u b e = rw e

pub has_some : (th : Theory) (u : Tm) {a : Ty} (b : Ty) → type_of th u ≡ some a → has_type th u b ≡ same_ty b a
has_some th u b e = rw e
