-- Blanks and comments are no tokens.
use Rattle.std.proofs.Common.{sym, refl, ◌∙◌, arith}
use Rattle.reader.proofs.Ahead.{ends_same, ends_on, ends_shorter, later_ends, later_shorter, at_blank, at_comment, stops_left, stops_end}
use Rattle.reader.proofs.tokens.skip.Goals as goal

pub loop-text-init : goal.loop-text-init
loop-text-init c = (refl, ends_same c.args.text.now)

pub loop-text-smaller-in-Blank : goal.loop-text-smaller-in-Blank
loop-text-smaller-in-Blank c = omega (arith, later_shorter c.loop-text.text.now c.in-len1-up.len_at_least)

pub loop-text-preserved-in-Blank : goal.loop-text-preserved-in-Blank
loop-text-preserved-in-Blank c =
    let t = c.loop-text.text.now in
    let h = c.in-len1-up.len_at_least in
    (c.loop-text.invariant.0 ∙ at_blank t h (sym c.in-Blank.ensures), ends_on _ _ _ c.loop-text.invariant.1 (later_ends t h))

pub loop-text-smaller : goal.loop-text-smaller
loop-text-smaller c =
    omega (arith, later_shorter c.loop-text.text.now c.in-len1-up.len_at_least, ends_shorter _ _ c.behind_comment-text.ensures.ends)

pub loop-text-preserved : goal.loop-text-preserved
loop-text-preserved c =
    let t = c.loop-text.text.now in
    let h = c.in-len1-up.len_at_least in
    let to = c.behind_comment-text.ensures in (
      c.loop-text.invariant.0 ∙ at_comment t h (sym c.in-Comment.ensures) ∙ to.ahead,
      ends_on _ _ _ c.loop-text.invariant.1 (ends_on _ _ _ (later_ends t h) to.ends),
    )

pub returns-in_default-from : goal.returns-in_default-from
returns-in_default-from c = record {
  ahead = c.loop-text.invariant.0;
  ends = c.loop-text.invariant.1;
  stops =
      stops_left c.loop-text.text.now c.in-len1-up.len_at_least (λ e. c.in_default-from.not-Blank (c.from.ensures ∙ e))
      (λ e. c.in_default-from.not-Comment (c.from.ensures ∙ e));
}

pub returns : goal.returns
returns c = record {
  ahead = c.loop-text.invariant.0;
  ends = c.loop-text.invariant.1;
  stops = stops_end c.loop-text.text.now c.in_default.len_below;
}
