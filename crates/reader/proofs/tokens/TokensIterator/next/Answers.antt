-- The token that begins with the first byte that skip leaves.
use Rattle.std.proofs.Common.{sym, refl, ◌∙◌}
use Rattle.reader.proofs.Given.{gives_open, gives_close, gives_word}
use Rattle.reader.proofs.tokens.TokensIterator.next.Goals as goal
use Rattle.reader.proofs.tokens.TokensIterator.next.Goals.{in-Opening, in-Closing, in_default-from}

pub returns-clause-steps : goal.returns-clause-steps
returns-clause-steps c =
    let t = c.skip-text.result.now in
    let to = c.skip-text.ensures in
    let h = c.in-len1-up.len_at_least in
    elim c.match-from.branch [
      | in-Opening w ↦ rw w.t-18-is (gives_open c.args.self.now t to h _ (sym c.from.ensures ∙ w.in-Opening.is) refl)
      | in-Closing w ↦ rw w.t-18-is (gives_close c.args.self.now t to h _ (sym c.from.ensures ∙ w.in-Closing.is) refl)
      | in_default-from w ↦
          let n = w.first_word.ensures in
          rw w.t-18-is
          (gives_word c.args.self.now t to h _ _ n.word n.behind
          (λ e. w.in_default-from.not-Opening (c.from.ensures ∙ e)) (λ e. w.in_default-from.not-Closing (c.from.ensures ∙ e)))
    ]
