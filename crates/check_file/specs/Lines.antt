-- The line that is printed for a file.
use Rattle.std.specs.Prelude.{ℕ, List, ◌++◌, Ok, Err, codes, decimal, Result}
use Rattle.reader.specs.declared.Fault.{Fault}
use Rattle.reader.specs.declared.Fault.TheVariants.{Broken}

abbrev pub line : Result ℕ Fault → List ℕ
line (Ok n) = decimal n ++ codes " commands"
line (Err Broken) = codes "broken"
