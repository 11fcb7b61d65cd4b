use Rattle.lent.specs.Piles.{pile_of}
use Rattle.lent.proofs.Refused.{refused}
use Rattle.typing.proofs.Refusals.{up_stands, function_stands, argument_short, function_short, odd_words, pops_rest}
use Rattle.typing.proofs.Steps.{all_done, into_argument, ups, application_tried, lambda_typed}
use Rattle.typing.proofs.infer.up.Goals as goal

pub returns-in_default-clause-moves : goal.returns-in_default-clause-moves
returns-in_default-clause-moves g c th x scratch at =
    let s = g.S.Store.state c.args.store.now in
    let p = c.in_default.ensures.cases in
    rw p.0 (all_done th s s (pile_of c.args.f.now).held (pile_of c.args.scope.now).held c.args.n at (odd_words at p.1))

pub apply_type-requires-clause-function : goal.apply_type-requires-clause-function
apply_type-requires-clause-function g c = function_stands c.requires.at.1 c.in-Some.ensures.cases.0 c.from.ensures c.in-Argument.is

pub apply_type-requires-clause-argument : goal.apply_type-requires-clause-argument
apply_type-requires-clause-argument g c = up_stands c.requires.at.1

pub returns-in_ok-push_all-in-Function-clause-moves : goal.returns-in_ok-push_all-in-Function-clause-moves
returns-in_ok-push_all-in-Function-clause-moves g c th x scratch at =
    let s = g.S.Store.state c.args.store.now in
    into_argument th s s (pile_of c.args.f.now).held (pile_of c.args.scope.now).held c.args.n c.in-Some.k c.in-Some.kept (pile_of c.pop_pair.new.self).held
    c.from.result c.in-Some.ensures.cases.0 c.from.ensures at c.in-Function.is c.in_ok-push_all-in-Function.ensures.cases.0

pub returns-in_err-push_all-in-Function-clause-moves : goal.returns-in_err-push_all-in-Function-clause-moves
returns-in_err-push_all-in-Function-clause-moves g c th x scratch at =
    refused _ c.from_residual.result c.from_residual.ensures.0
    (argument_short th (pile_of c.args.f.now).capacity scratch (pile_of c.args.scope.now).capacity (g.S.Store.state c.args.store.now) (pile_of c.args.f.now).held
    (pile_of c.args.scope.now).held c.args.n c.in-Some.k c.in-Some.kept (pile_of c.pop_pair.new.self).held c.in-Some.ensures.cases.0 at
    (rw c.in-Some.ensures.cases.1 at c.in_err-push_all-in-Function.ensures.cases.1))

pub returns-in-Argument-clause-moves : goal.returns-in-Argument-clause-moves
returns-in-Argument-clause-moves g c th x scratch at =
    let st = g.S.Store.state in
    let a = c.apply_type.ensures in
    rw (ups c.apply_type.result c.map.result c.map.ensures.cases)
    (application_tried th (st c.args.store.now) (st c.apply_type.new.store) (pile_of c.args.f.now).held (pile_of c.args.scope.now).held c.args.n c.in-Some.k
    c.in-Some.kept (pile_of c.pop_pair.new.self).held c.from.result c.in-Some.ensures.cases.0 c.from.ensures c.apply_type.result at c.in-Argument.is a.stays
    a.cases)

pub returns-in_ok-function_type-in-Body-clause-moves : goal.returns-in_ok-function_type-in-Body-clause-moves
returns-in_ok-function_type-in-Body-clause-moves g c th x scratch at =
    let st = g.S.Store.state in
    lambda_typed th (st c.args.store.now) (st c.function_type.new.store) (pile_of c.args.f.now).held (pile_of c.args.scope.now).held c.args.n c.in-Some.k
    c.in-Some.kept (pile_of c.pop_pair.new.self).held c.from.result c.in-Some.ensures.cases.0 c.from.ensures at c.in-Body.is
    (λ qs z. pops_rest (pile_of c.args.scope.now) (pile_of c.pop.new.self) c.pop.result c.pop.ensures.cases z)
    (λ a b ha hb. c.in_ok-function_type-in-Body.ensures a b c.requires.name ha hb)

pub returns-in_err-function_type-in-Body-clause-moves : goal.returns-in_err-function_type-in-Body-clause-moves
returns-in_err-function_type-in-Body-clause-moves g c th x scratch at =
    refused _ c.from_residual-in_err-function_type-in-Body.result c.from_residual-in_err-function_type-in-Body.ensures.0
    (function_short th (pile_of c.args.f.now).capacity scratch (pile_of c.args.scope.now).capacity (g.S.Store.state c.args.store.now) (pile_of c.args.f.now).held
    (pile_of c.args.scope.now).held c.args.n c.in-Some.k c.in-Some.kept (pile_of c.pop_pair.new.self).held c.in-Some.ensures.cases.0 c.from.ensures at c.in-Body.is
    (λ a b ha hb. c.in_err-function_type-in-Body.ensures a b c.requires.name ha hb))
