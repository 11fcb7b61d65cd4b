-- How many line feeds there are.
use Rattle.std.proofs.Common.{◌≡◌, ℕ, ◌+◌, Bool, true, false, cond, eqb, List, length, sym, refl, ◌∙◌, arith}
use Rattle.std.specs.List.{filter}
use Rattle.std.proofs.lemmas.List.Recursion.{is_count_by}
use Rattle.std.proofs.lemmas.List.Sums.{length-filter}
use Rattle.reader.specs.Lines.{line_feeds}
use Rattle.reader.proofs.Ahead.{feeds}

one_more : (b : Bool) (n : ℕ) → cond b 1 0 + n ≡ cond b (1 + n) n
one_more true n = refl
one_more false n = omega arith

pub filtered : (t : List ℕ) → length (filter feeds t) ≡ line_feeds t
filtered t = length-filter feeds t ∙ sym (is_count_by (λ cs. line_feeds cs) feeds refl (λ c cs. one_more (eqb c 10) (line_feeds cs)) t)
