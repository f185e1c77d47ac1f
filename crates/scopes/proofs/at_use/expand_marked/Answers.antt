use Rattle.std.proofs.Common.{◌≡◌, false, sym, ap, ◌∙◌, unwrap_or, [], List, ℕ, Option}
use Rattle.scopes.specs.Use.{is_special}
use Rattle.scopes.proofs.Alone.{unbound_is}
use Rattle.scopes.proofs.Marking.{none_marked}
use Rattle.scopes.proofs.at_use.expand_marked.Goals as goal

pub returns-clause-value : goal.returns-clause-value
returns-clause-value c = λ past is.
    let plain : is_special c.args.asked.now ≡ false = c.begins_as_special.ensures c.if-begins_as_special.false in
    let unmarked = c.may_have.ensures c.if-may_have.false in
    let marks = c.requires.marks in
    let block = none_marked _ c.args.marks c.args.asked.now marks.block unmarked in
    let rule = none_marked _ c.args.marks c.args.asked.now marks.rule unmarked in
    let scope = none_marked _ c.args.marks c.args.asked.now (marks.scope past is) unmarked in
    unbound_is c.args.at.now c.args.asked.now plain past block rule c.new.result (c.new.ensures ∙ ap (λ (found : Option (List ℕ)). unwrap_or found []) (sym scope))
