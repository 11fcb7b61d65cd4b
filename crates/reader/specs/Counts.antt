-- What the count of a text's S-expressions says.
use Rattle.std.specs.Prelude.{◌≡◌, ℕ, List, Ok, Err, Result}
use Rattle.std.proofs.Math.Option.{some, none}
use Rattle.hol.specs.Text.{Sexps, count_sexps, sexps}
use Rattle.reader.specs.declared.Fault.{Fault}
use Rattle.reader.specs.declared.Fault.TheVariants.{Broken}

-- The answer to the text t: Ok n, and its bytes come to n S-expressions; Broken, and they come to none. `sexps` is a function, so each
-- holds the other way too: a text that comes to n S-expressions has no other answer than Ok n, and one that comes to none than Broken.
abbrev pub CountSays : List ℕ → Result ℕ Fault → Type 0
CountSays t (Ok n) = (ts : Sexps) × (sexps t ≡ some ts) × (count_sexps ts ≡ n)
CountSays t (Err Broken) = sexps t ≡ none
