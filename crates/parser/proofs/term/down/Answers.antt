use Rattle.lent.specs.Piles.{pile_of}
use Rattle.std.proofs.Common.{◌∷◌, length, refl, ap, ◌∙◌, arith}
use Rattle.lent.proofs.Words.{stack-spare, stack_lent}
use Rattle.lent.proofs.Refused.{refused}
use Rattle.parser_types.proofs.Single.{given_token}
use Rattle.waits.specs.Codes.{code}
use Rattle.waits.specs.declared.Wait.TheVariants.{Function, Body}
use Rattle.parser.specs.Machine.{moved, no_more}
use Rattle.lent.proofs.Words.{kept_below}
use Rattle.parser.proofs.Downs.{no_token, nothing_there, variable_missing, variable_found, variable_short, into, whole_read, no_term, function_next, body_next, open_short, function_full, body_full, names_full}
use Rattle.parser.proofs.term.down.Goals as goal

pub returns-in_default-clause-moves : goal.returns-in_default-clause-moves
returns-in_default-clause-moves g c = λ qs x at.
    let w = given_token c.in-Some-Word.ensures.steps c.in-Some-Word.field-0-is in
    no_more (variable_missing w at c.in_default.ensures)

pub returns-in_err-ok_or-in-Some-Word-clause-moves : goal.returns-in_err-ok_or-in-Some-Word-clause-moves
returns-in_err-ok_or-in-Some-Word-clause-moves g c = λ qs x at.
    let w = given_token c.in-Some-Word.ensures.steps c.in-Some-Word.field-0-is in
    refused _ c.from_residual.result c.from_residual.ensures.0
    (variable_short w at (rw c.in_err-ok_or-in-Some-Word.ensures.ok_part at c.bound.ensures))

pub returns-in_ok-ok_or-in-Some-Word-clause-moves : goal.returns-in_ok-ok_or-in-Some-Word-clause-moves
returns-in_ok-ok_or-in-Some-Word-clause-moves g c = λ qs x at.
    let w = given_token c.in-Some-Word.ensures.steps c.in-Some-Word.field-0-is in
    moved (variable_found w at c.in-Some.ensures (rw c.in_ok-ok_or-in-Some-Word.ensures.ok_part at c.bound.ensures))

pub returns-in_err-t-in-Some-Open-clause-moves : goal.returns-in_err-t-in-Some-Open-clause-moves
returns-in_err-t-in-Some-Open-clause-moves g c = λ qs x at.
    let i = given_token c.in-Some-Open.ensures.steps c.in-Some-Open.field-0-is in
    let s = stack-spare c.args.pending.now in
    refused _ c.from_residual-in_err-t-in-Some-Open.result c.from_residual-in_err-t-in-Some-Open.ensures.0
    (open_short i (g.S.Store.state c.args.store.now) (into at i) (rw s at c.in_err-t-in-Some-Open.ensures))

pub returns-in-None-2-clause-moves : goal.returns-in-None-2-clause-moves
returns-in-None-2-clause-moves g c = λ qs x at.
    let i = given_token c.in-Some-Open.ensures.steps c.in-Some-Open.field-0-is in
    no_more (no_term (into at i) (rw c.in-None-2.is at c.in_ok-t-in-Some-Open.ensures))

pub returns-in-Some-Whole-clause-moves : goal.returns-in-Some-Whole-clause-moves
unfolding pile_of
returns-in-Some-Whole-clause-moves g c = λ qs x at.
    let i = given_token c.in-Some-Open.ensures.steps c.in-Some-Open.field-0-is in
    let r = rw (c.in-Some-Whole.is, c.in-Some-Whole.field-0-is) at c.in_ok-t-in-Some-Open.ensures in
    let k = kept_below c.args.pending.now.words.now c.open.new.words c.args.pending.now.len (pile_of c.args.pending.now) c.args.pending.now.fits refl c.open.auto.words in
    rw (ap (λ q. q.held) k) (moved (whole_read i (into at i) r))

pub returns-in_err-push_all-in-Some-Function-clause-moves : goal.returns-in_err-push_all-in-Some-Function-clause-moves
unfolding pile_of
returns-in_err-push_all-in-Some-Function-clause-moves g c = λ qs x at.
    let i = given_token c.in-Some-Open.ensures.steps c.in-Some-Open.field-0-is in
    let r = rw (c.in-Some-Function.is, c.in-Some-Function.field-0-is) at c.in_ok-t-in-Some-Open.ensures in
    let k = kept_below c.args.pending.now.words.now c.open.new.words c.args.pending.now.len (pile_of c.args.pending.now) c.args.pending.now.fits refl c.open.auto.words in
    let b = c.in_err-push_all-in-Some-Function.ensures.cases.1 in
    refused _ c.from_residual-in_err-push_all-in-Some-Function.result c.from_residual-in_err-push_all-in-Some-Function.ensures.0
    (function_full i (into at i) r (omega (arith, ap (λ q. length q.held) k, ap (λ q. q.capacity) k, b)))

pub returns-in_ok-push_all-in-Some-Function-clause-moves : goal.returns-in_ok-push_all-in-Some-Function-clause-moves
unfolding pile_of
returns-in_ok-push_all-in-Some-Function-clause-moves g c = λ qs x at.
    let i = given_token c.in-Some-Open.ensures.steps c.in-Some-Open.field-0-is in
    let r = rw (c.in-Some-Function.is, c.in-Some-Function.field-0-is) at c.in_ok-t-in-Some-Open.ensures in
    let k = kept_below c.args.pending.now.words.now c.open.new.words c.args.pending.now.len (pile_of c.args.pending.now) c.args.pending.now.fits refl c.open.auto.words in
    moved (function_next i (into at i) r (c.in_ok-push_all-in-Some-Function.ensures.cases.0 ∙ ap (λ ws. code Function ∷ 0 ∷ ws) (ap (λ q. q.held) k)))

pub returns-in_err-push-in-Some-Under-clause-moves : goal.returns-in_err-push-in-Some-Under-clause-moves
returns-in_err-push-in-Some-Under-clause-moves g c = λ qs x at.
    let i = given_token c.in-Some-Open.ensures.steps c.in-Some-Open.field-0-is in
    let r = rw (c.in-Some-Under.is, c.in-Some-Under.field-0-is) at c.in_ok-t-in-Some-Open.ensures in
    refused _ c.from_residual-in_err-push-in-Some-Under.result c.from_residual-in_err-push-in-Some-Under.ensures.0
    (names_full i (into at i) r c.in_err-push-in-Some-Under.ensures.cases.1)

pub returns-in_err-push_all-in-Some-Under-clause-moves : goal.returns-in_err-push_all-in-Some-Under-clause-moves
unfolding pile_of
returns-in_err-push_all-in-Some-Under-clause-moves g c = λ qs x at.
    let i = given_token c.in-Some-Open.ensures.steps c.in-Some-Open.field-0-is in
    let r = rw (c.in-Some-Under.is, c.in-Some-Under.field-0-is) at c.in_ok-t-in-Some-Open.ensures in
    let k = kept_below c.args.pending.now.words.now c.open.new.words c.args.pending.now.len (pile_of c.args.pending.now) c.args.pending.now.fits refl c.open.auto.words in
    let b = c.in_err-push_all-in-Some-Under.ensures.cases.1 in
    refused _ c.from_residual-in_err-push_all-in-Some-Under.result c.from_residual-in_err-push_all-in-Some-Under.ensures.0
    (body_full i (into at i) r (omega (arith, ap (λ q. length q.held) k, ap (λ q. q.capacity) k, b)))

pub returns-in_ok-push_all-in-Some-Under-clause-moves : goal.returns-in_ok-push_all-in-Some-Under-clause-moves
unfolding pile_of
returns-in_ok-push_all-in-Some-Under-clause-moves g c = λ qs x at.
    let i = given_token c.in-Some-Open.ensures.steps c.in-Some-Open.field-0-is in
    let r = rw (c.in-Some-Under.is, c.in-Some-Under.field-0-is) at c.in_ok-t-in-Some-Open.ensures in
    let k = kept_below c.args.pending.now.words.now c.open.new.words c.args.pending.now.len (pile_of c.args.pending.now) c.args.pending.now.fits refl c.open.auto.words in
    moved (body_next i (into at i) r (c.in_ok-push_all-in-Some-Under.ensures.cases.0 ∙ ap (λ ws. code Body ∷ c.in-Some-Under.variable.ty ∷ ws) (ap (λ q. q.held) k))
    c.in_ok-push-in-Some-Under.ensures.cases.0)

pub returns-in-Some-Close-clause-moves : goal.returns-in-Some-Close-clause-moves
returns-in-Some-Close-clause-moves g c = λ qs x at.
    no_more (nothing_there at (given_token c.in-Some-Close.ensures.steps c.in-Some-Close.field-0-is))

pub returns-in-None-clause-moves : goal.returns-in-None-clause-moves
returns-in-None-clause-moves g c = λ qs x at. absurd (no_token at c.in-None.ensures.steps.0)

-- HOW MANY THE STACK CAN HOLD
pub returns-in_err-t-in-Some-Open-clause-capacity : goal.returns-in_err-t-in-Some-Open-clause-capacity
returns-in_err-t-in-Some-Open-clause-capacity g c = ap (λ o. o.capacity) (stack_lent c.args.pending.now _ c.open.new.words refl refl refl c.open.auto.words)

pub returns-in-None-2-clause-capacity : goal.returns-in-None-2-clause-capacity
returns-in-None-2-clause-capacity g c = ap (λ o. o.capacity) (stack_lent c.args.pending.now _ c.open.new.words refl refl refl c.open.auto.words)

pub returns-in-Some-Whole-clause-capacity : goal.returns-in-Some-Whole-clause-capacity
returns-in-Some-Whole-clause-capacity g c = ap (λ o. o.capacity) (stack_lent c.args.pending.now _ c.open.new.words refl refl refl c.open.auto.words)

pub returns-in_err-push-in-Some-Under-clause-capacity : goal.returns-in_err-push-in-Some-Under-clause-capacity
returns-in_err-push-in-Some-Under-clause-capacity g c = ap (λ o. o.capacity) (stack_lent c.args.pending.now _ c.open.new.words refl refl refl c.open.auto.words)

pub returns-in_err-push_all-in-Some-Function-clause-capacity : goal.returns-in_err-push_all-in-Some-Function-clause-capacity
returns-in_err-push_all-in-Some-Function-clause-capacity g c = ap (λ o. o.capacity) c.in_err-push_all-in-Some-Function.ensures.cases.0 ∙ ap (λ o. o.capacity) (stack_lent c.args.pending.now _ c.open.new.words refl refl refl c.open.auto.words)

pub returns-in_ok-push_all-in-Some-Function-clause-capacity : goal.returns-in_ok-push_all-in-Some-Function-clause-capacity
returns-in_ok-push_all-in-Some-Function-clause-capacity g c = c.in_ok-push_all-in-Some-Function.ensures.cases.1 ∙ ap (λ o. o.capacity) (stack_lent c.args.pending.now _ c.open.new.words refl refl refl c.open.auto.words)

pub returns-in_err-push_all-in-Some-Under-clause-capacity : goal.returns-in_err-push_all-in-Some-Under-clause-capacity
returns-in_err-push_all-in-Some-Under-clause-capacity g c = ap (λ o. o.capacity) c.in_err-push_all-in-Some-Under.ensures.cases.0 ∙ ap (λ o. o.capacity) (stack_lent c.args.pending.now _ c.open.new.words refl refl refl c.open.auto.words)

pub returns-in_ok-push_all-in-Some-Under-clause-capacity : goal.returns-in_ok-push_all-in-Some-Under-clause-capacity
returns-in_ok-push_all-in-Some-Under-clause-capacity g c = c.in_ok-push_all-in-Some-Under.ensures.cases.1 ∙ ap (λ o. o.capacity) (stack_lent c.args.pending.now _ c.open.new.words refl refl refl c.open.auto.words)
