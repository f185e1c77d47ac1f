use Rattle.std.proofs.Common.{refl, rules}
use Rattle.lexer.specs.Grammar.{Is, Give}
use Rattle.lexer.specs.Grammar.Then.{goes_on}
use Rattle.lexer.specs.Tokens.{one, name, word_end}
use Rattle.lexer.specs.Values.{Blanks}
use Rattle.lexer.proofs.Marks.{behind_rule, behind_colon_blanks, behind_colon}
use Rattle.lexer.proofs.Reading.{breaks_first, breaks_next}
use Rattle.lexer.proofs.build_lines.rule_name_at.Goals as goal

pub returns-clause-reads : goal.returns-clause-reads
returns-clause-reads c =
    goes_on {value = tt} c.in_ok-after.ensures.reads (goes_on {value = tt} c.skip_blanks-start.ensures.blanks (goes_on {value = c.in_ok-rule.rule.now} c.in_ok-rule.ensures.reads (goes_on {value = tt} c.in_ok-end_word.ensures.reads refl)))

pub returns-in_err-after-clause-fault : goal.returns-in_err-after-clause-fault
returns-in_err-after-clause-fault c =
    let stops = breaks_first (Is (one 58)) behind_colon c.args.colon _ c.in_err-after.ensures.fault in
    search (rules, stops)

pub returns-in_err-rule-clause-fault : goal.returns-in_err-rule-clause-fault
returns-in_err-rule-clause-fault c =
    let named = breaks_first (Is name) behind_rule c.skip_blanks-start.result _ c.in_err-rule.ensures.fault in
    let spaced = breaks_next Blanks behind_colon_blanks tt c.in_ok-after.after c.skip_blanks-start.result _ c.skip_blanks-start.ensures.blanks c.skip_blanks-start.ensures.behind named in
    let stops = breaks_next (Is (one 58)) behind_colon tt c.args.colon c.in_ok-after.after _ c.in_ok-after.ensures.reads c.in_ok-after.ensures.behind spaced in
    search (rules, stops)

pub returns-in_err-end_word-clause-fault : goal.returns-in_err-end_word-clause-fault
returns-in_err-end_word-clause-fault c =
    let ended = breaks_first (Is word_end) (λ _. Give c.in_ok-rule.rule.now) c.in_ok-rule.end _ c.in_err-end_word.ensures.fault in
    let named = breaks_next (Is name) behind_rule c.in_ok-rule.rule.now c.skip_blanks-start.result c.in_ok-rule.end _ c.in_ok-rule.ensures.reads c.in_ok-rule.ensures.behind ended in
    let spaced = breaks_next Blanks behind_colon_blanks tt c.in_ok-after.after c.skip_blanks-start.result _ c.skip_blanks-start.ensures.blanks c.skip_blanks-start.ensures.behind named in
    let stops = breaks_next (Is (one 58)) behind_colon tt c.args.colon c.in_ok-after.after _ c.in_ok-after.ensures.reads c.in_ok-after.ensures.behind spaced in
    search (rules, stops)
