use Rattle.std.proofs.Common.{List, refl, rules}
use Rattle.lexer.specs.Grammar.{Is, Give}
use Rattle.lexer.specs.Grammar.Then.{goes_on}
use Rattle.lexer.specs.Said.{Fragments, paths_of}
use Rattle.lexer.specs.Statements.{Outputs, OfRule, InputsForm, Inputs, build_form}
use Rattle.lexer.specs.Tokens.{line_end, word_end}
use Rattle.lexer.proofs.Marks.{behind_build, behind_outputs, behind_rule_name, behind_inputs}
use Rattle.lexer.proofs.Places.{behind_none}
use Rattle.lexer.proofs.Reading.{breaks_first, breaks_next}
use Rattle.lexer.proofs.build_lines.build_at.Goals as goal

pub returns-clause-reads : goal.returns-clause-reads
returns-clause-reads c =
    let outs : List Fragments × List Fragments = (paths_of c.in_ok-outputs.outputs.explicit, paths_of c.in_ok-outputs.outputs.implicit) in
    let ins : InputsForm = record { explicit = paths_of c.in_ok-inputs.inputs.explicit; implicit = paths_of c.in_ok-inputs.inputs.implicit; order_only = paths_of c.in_ok-inputs.inputs.order_only; validations = paths_of c.in_ok-inputs.inputs.validations } in
    goes_on {value = tt} c.in_ok-end_word.ensures.reads (
    goes_on {value = outs} c.in_ok-outputs.ensures.reads (
    goes_on {value = c.in_ok-rule.rule.now} c.in_ok-rule.ensures.reads (
    goes_on {value = ins} c.in_ok-inputs.ensures.reads (
    goes_on {value = tt} c.in_ok-next.ensures.reads refl))))

pub returns-in_err-end_word-clause-fault : goal.returns-in_err-end_word-clause-fault
returns-in_err-end_word-clause-fault c =
    let stops = breaks_first (Is word_end) behind_build c.args.cursor _ c.in_err-end_word.ensures.fault in
    search (rules, stops)

pub returns-in_err-outputs-clause-fault : goal.returns-in_err-outputs-clause-fault
returns-in_err-outputs-clause-fault c =
    let b = breaks_first Outputs behind_outputs c.args.cursor _ c.in_err-outputs.ensures.fault in
    let stops = breaks_next (Is word_end) behind_build tt c.args.cursor c.args.cursor _ c.in_ok-end_word.ensures.reads (behind_none c.args.cursor) b in
    search (rules, stops)

pub returns-in_err-rule-clause-fault : goal.returns-in_err-rule-clause-fault
returns-in_err-rule-clause-fault c =
    let outs : List Fragments × List Fragments = (paths_of c.in_ok-outputs.outputs.explicit, paths_of c.in_ok-outputs.outputs.implicit) in
    let r = breaks_first OfRule (behind_rule_name outs) c.in_ok-outputs.colon _ c.in_err-rule.ensures.fault in
    let b = breaks_next Outputs behind_outputs outs c.args.cursor c.in_ok-outputs.colon _ c.in_ok-outputs.ensures.reads c.in_ok-outputs.ensures.behind r in
    let stops = breaks_next (Is word_end) behind_build tt c.args.cursor c.args.cursor _ c.in_ok-end_word.ensures.reads (behind_none c.args.cursor) b in
    search (rules, stops)

pub returns-in_err-inputs-clause-fault : goal.returns-in_err-inputs-clause-fault
returns-in_err-inputs-clause-fault c =
    let outs : List Fragments × List Fragments = (paths_of c.in_ok-outputs.outputs.explicit, paths_of c.in_ok-outputs.outputs.implicit) in
    let ruled = c.in_ok-rule.rule.now in
    let i = breaks_first Inputs (behind_inputs outs ruled) c.in_ok-rule.after _ c.in_err-inputs.ensures.fault in
    let r = breaks_next OfRule (behind_rule_name outs) ruled c.in_ok-outputs.colon c.in_ok-rule.after _ c.in_ok-rule.ensures.reads c.in_ok-rule.ensures.behind i in
    let b = breaks_next Outputs behind_outputs outs c.args.cursor c.in_ok-outputs.colon _ c.in_ok-outputs.ensures.reads c.in_ok-outputs.ensures.behind r in
    let stops = breaks_next (Is word_end) behind_build tt c.args.cursor c.args.cursor _ c.in_ok-end_word.ensures.reads (behind_none c.args.cursor) b in
    search (rules, stops)

pub returns-in_err-next-clause-fault : goal.returns-in_err-next-clause-fault
returns-in_err-next-clause-fault c =
    let outs : List Fragments × List Fragments = (paths_of c.in_ok-outputs.outputs.explicit, paths_of c.in_ok-outputs.outputs.implicit) in
    let ruled = c.in_ok-rule.rule.now in
    let ins : InputsForm = record { explicit = paths_of c.in_ok-inputs.inputs.explicit; implicit = paths_of c.in_ok-inputs.inputs.implicit; order_only = paths_of c.in_ok-inputs.inputs.order_only; validations = paths_of c.in_ok-inputs.inputs.validations } in
    let e = breaks_first (Is line_end) (λ _. Give (build_form outs ruled ins)) c.in_ok-inputs.end _ c.in_err-next.ensures.fault in
    let i = breaks_next Inputs (behind_inputs outs ruled) ins c.in_ok-rule.after c.in_ok-inputs.end _ c.in_ok-inputs.ensures.reads c.in_ok-inputs.ensures.behind e in
    let r = breaks_next OfRule (behind_rule_name outs) ruled c.in_ok-outputs.colon c.in_ok-rule.after _ c.in_ok-rule.ensures.reads c.in_ok-rule.ensures.behind i in
    let b = breaks_next Outputs behind_outputs outs c.args.cursor c.in_ok-outputs.colon _ c.in_ok-outputs.ensures.reads c.in_ok-outputs.ensures.behind r in
    let stops = breaks_next (Is word_end) behind_build tt c.args.cursor c.args.cursor _ c.in_ok-end_word.ensures.reads (behind_none c.args.cursor) b in
    search (rules, stops)
