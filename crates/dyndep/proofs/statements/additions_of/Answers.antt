use Rattle.std.proofs.Common.{ap, length, arith, subst, List}
use Rattle.std.proofs.lemmas.Result.{err_from_is_err_and}
use Rattle.lexer.specs.Said.{Form}
use Rattle.dyndep.specs.Refused.{forms_in}
use Rattle.dyndep.proofs.Additions.{AddsSoFar, one_more_added, all_added, none_added}
use Rattle.dyndep.proofs.Parts.{refused, behind_shorter, none_left}
use Rattle.dyndep.proofs.statements.additions_of.Goals as goal

pub returns-in_err-addition-clause-fault : goal.returns-in_err-addition-clause-fault
returns-in_err-addition-clause-fault c =
    let p = err_from_is_err_and c.from_residual-in_err-addition.result c.from_residual-in_err-addition.ensures.1 in
    let far = subst (λ (left : List Form). AddsSoFar (forms_in c.args.lines.now) left c.statements.additions) (ap forms_in c.in-Some.ensures.cases.0) c.statements.invariant in
    rw (p.1, p.2) (refused c.in_err-addition.field-0.0 c.in_err-addition.ensures.fault (none_added (forms_in c.args.lines.now) (forms_in c.in-Some.rest.now) _ _ _ c.statements.additions far c.split_block.ensures))

pub statements-smaller : goal.statements-smaller
statements-smaller c =
    let e = ap length c.in-Some.ensures.cases.0 in
    let le = behind_shorter c.in-Some.rest.now c.split_block.result.0.now c.split_block.result.1.now c.split_block.ensures in
    omega arith

pub statements-preserved : goal.statements-preserved
statements-preserved c =
    let far = subst (λ (left : List Form). AddsSoFar (forms_in c.args.lines.now) left c.statements.additions) (ap forms_in c.in-Some.ensures.cases.0) c.statements.invariant in
    rw c.in_ok-push.ensures.ok (one_more_added (forms_in c.args.lines.now) (forms_in c.in-Some.rest.now) _ _ _ c.in_ok-addition.addition c.statements.additions far c.split_block.ensures c.in_ok-addition.ensures.adds)

pub returns-clause-said : goal.returns-clause-said
returns-clause-said c = all_added (forms_in c.args.lines.now) (forms_in c.statements.left.now) c.statements.additions c.statements.invariant (ap forms_in (none_left c.statements.left.now c.in_default.ensures.cases))
