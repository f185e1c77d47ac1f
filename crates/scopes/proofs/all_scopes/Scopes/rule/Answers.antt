use Rattle.std.proofs.Common.{zero, ◌∙◌, ap}
use Rattle.scopes.specs.Moves.{rule_named, first_in}
use Rattle.scopes.proofs.Back.{looks_back}
use Rattle.scopes.proofs.all_scopes.Scopes.rule.Goals as goal

pub returns : goal.returns
returns c = λ past at.
    c.rule_in.ensures past at ∙ (ap (first_in (rule_named c.args.name.now) past) at.around ∙ looks_back (rule_named c.args.name.now) past at.lawful zero)
