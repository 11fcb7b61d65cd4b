-- What a byte does to a reader that keeps only where it stands, how many brackets are open and how many commands began.
use Rattle.std.specs.Prelude.{◌≡◌, ℕ, ◌+◌, ◌-◌, ◌<◌, cond, Ok, Err, Result, ◌==◌}
use Rattle.std.proofs.Math.Option.{Option, some, none}
use Rattle.hol.specs.Text.{is_blank}
use Rattle.reader.specs.declared.Fault.{Fault}
use Rattle.reader.specs.declared.Fault.TheVariants.{Broken}
use Rattle.reader.specs.declared.state.Mode.{Mode}
use Rattle.reader.specs.declared.state.Mode.TheVariants.{Gap, InWord, Comment}
use Rattle.reader.specs.declared.state.Reader.{Reader}

abbrev pub state : Mode → ℕ → ℕ → Reader
state m d n = record { mode = m; depth = d; commands = n }

-- a word or a bracket begins: outside of all brackets it is one command more
abbrev pub begun : Reader → Reader
begun s = cond (s.depth == 0) (state s.mode s.depth (s.commands + 1)) s

abbrev pub opened : Reader → Reader
opened s = state Gap (s.depth + 1) (begun s).commands

-- nothing where no bracket is open
abbrev pub closed : Reader → Option Reader
closed s = cond (s.depth == 0) none (some (state Gap (s.depth - 1) s.commands))

-- a byte of a word, which begins with it unless the reader stands in one
abbrev pub lettered_in : Mode → Reader → Reader
lettered_in Gap s = state InWord s.depth (begun s).commands
lettered_in InWord s = s
lettered_in Comment s = s

abbrev pub lettered : Reader → Reader
lettered s = lettered_in s.mode s

-- a byte that continues no comment
abbrev pub plain : Reader → ℕ → Option Reader
plain s c =
    cond (is_blank c) (some (state Gap s.depth s.commands))
    (cond (c == 59) (some (state Comment s.depth s.commands))
    (cond (c == 40) (some (opened s))
    (cond (c == 41) (closed s) (some (lettered s)))))

abbrev pub after_in : Mode → Reader → ℕ → Option Reader
after_in Gap s c = plain s c
after_in InWord s c = plain s c
after_in Comment s c = cond (c == 10) (some (state Gap s.depth s.commands)) (some s)

-- the reader behind the byte c; nothing where c closes a bracket and none is open
abbrev pub after : Reader → ℕ → Option Reader
after s c = after_in s.mode s c

-- Ok, and s is what should come; Broken, and nothing should
abbrev pub StepSays : Option Reader → Reader → Result (Unit {0}) Fault → Type 0
StepSays o s (Ok _) = o ≡ some s
StepSays o s (Err Broken) = o ≡ none

-- at the end no bracket may be open
abbrev pub EndSays : Reader → Result ℕ Fault → Type 0
EndSays s (Ok n) = (s.depth ≡ 0) × (n ≡ s.commands)
EndSays s (Err Broken) = 0 < s.depth
