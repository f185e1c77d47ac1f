use Rattle.std.proofs.Common.{◌≡◌, Ok, None, List, sym, subst}
use Rattle.std.proofs.lemmas.Result.{IfOk-weaker, IfErr-weaker}
use Rattle.lexer.specs.declared.statement.Line.{Line}
use Rattle.dyndep.specs.Dyndep.{Adds, IsRead, Says}
use Rattle.dyndep.specs.Refused.{AnswersFault, RefusesForms, forms_in}
use Rattle.dyndep.proofs.Answer.{says_lines, adds_read, refuses_read}
use Rattle.dyndep.proofs.reading.parse.Goals as goal

pub returns-clause-said : goal.returns-clause-said
returns-clause-said c =
    let says = says_lines c.args.bytes.now c.in-Ok.text.now c.in_ok-lines.field-0.lines c.in_ok-lines.field-0.fault c.in-Ok.ensures.cases c.in_ok-lines.ensures in
    let here = subst (λ (lines : List Line). Says c.args.bytes.now (forms_in lines) c.in_ok-lines.field-0.fault) (sym c.as_slice.ensures) says in
    IfOk-weaker c.additions_behind.result (λ additions. (c.in_ok-lines.field-0.fault ≡ None) × Adds (forms_in c.as_slice.result.now) additions) (λ additions. IsRead c.args.bytes.now (Ok additions))
    (λ additions adds. adds_read c.args.bytes.now (forms_in c.as_slice.result.now) c.in_ok-lines.field-0.fault additions here adds) c.additions_behind.ensures.said

pub returns-clause-fault : goal.returns-clause-fault
returns-clause-fault c =
    let says = says_lines c.args.bytes.now c.in-Ok.text.now c.in_ok-lines.field-0.lines c.in_ok-lines.field-0.fault c.in-Ok.ensures.cases c.in_ok-lines.ensures in
    let here = subst (λ (lines : List Line). Says c.args.bytes.now (forms_in lines) c.in_ok-lines.field-0.fault) (sym c.as_slice.ensures) says in
    IfErr-weaker c.additions_behind.result (RefusesForms (forms_in c.as_slice.result.now) c.in_ok-lines.field-0.fault) (AnswersFault c.args.bytes.now)
    (λ error refuses. refuses_read c.args.bytes.now (forms_in c.as_slice.result.now) c.in_ok-lines.field-0.fault error here refuses) c.additions_behind.ensures.fault
