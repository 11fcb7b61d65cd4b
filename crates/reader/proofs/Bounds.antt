-- A byte opens at most one bracket and begins at most one command.
use Rattle.std.proofs.Common.{◌≡◌, ℕ, ◌+◌, ◌≤◌, Bool, true, false, cond, eqb, subst, arith}
use mathlib.Core.Option.{Option, some, none}
use Rattle.hol.specs.Text.{is_blank}
use Rattle.reader.specs.Steps.{begun, lettered_in, plain, after, after_in}
use Rattle.reader.specs.declared.state.Mode.{Mode}
use Rattle.reader.specs.declared.state.Mode.TheVariants.{Gap, InWord, Comment}
use Rattle.reader.specs.declared.state.Reader.{Reader}

abbrev pub OneMore : Reader → Option Reader → Type 0
OneMore s none = Unit {0}
OneMore s (some r) = (r.depth ≤ s.depth + 1) × (r.commands ≤ s.commands + 1)

either : {A : Type 0} (P : A → Type 0) (b : Bool) (x y : A) → P x → P y → P (cond b x y)
either P true x y p q = p
either P false x y p q = q

begun_more : (s : Reader) → (begun s).commands ≤ s.commands + 1
begun_more s = either (λ (r : Reader). r.commands ≤ s.commands + 1) (eqb s.depth 0) _ _ (omega arith) (omega arith)

lettered-more : (m : Mode) (s : Reader) → OneMore s (some (lettered_in m s))
lettered-more Gap s = (omega arith, begun_more s)
lettered-more InWord s = (omega arith, omega arith)
lettered-more Comment s = (omega arith, omega arith)

plain_more : (s : Reader) (c : ℕ) → OneMore s (plain s c)
plain_more s c =
    let P : Option Reader → Type 0 = OneMore s in
    either P (is_blank c) _ _ (omega arith, omega arith)
    (either P (eqb c 59) _ _ (omega arith, omega arith)
    (either P (eqb c 40) _ _ (omega arith, begun_more s)
    (either P (eqb c 41) _ _ (either P (eqb s.depth 0) _ _ tt (omega arith, omega arith)) (lettered-more s.mode s))))

after_in_more : (m : Mode) (s : Reader) (c : ℕ) → OneMore s (after_in m s c)
after_in_more Gap s c = plain_more s c
after_in_more InWord s c = plain_more s c
after_in_more Comment s c = either (OneMore s) (eqb c 10) _ _ (omega arith, omega arith) (omega arith, omega arith)

pub after_more : (s r : Reader) (c : ℕ) → after s c ≡ some r → (r.depth ≤ s.depth + 1) × (r.commands ≤ s.commands + 1)
after_more s r c e = subst (OneMore s) e (after_in_more s.mode s c)
