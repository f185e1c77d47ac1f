use Rattle.std.proofs.Common.{zero, ◌∙◌, ap}
use Rattle.scopes.specs.Moves.{variable, first_in}
use Rattle.scopes.proofs.Back.{looks_back}
use Rattle.scopes.proofs.all_scopes.Scopes.lookup.Goals as goal

pub returns : goal.returns
returns c = λ past at.
    c.lookup_in.ensures past at ∙ (ap (first_in (variable c.args.name.now) past) at.around ∙ looks_back (variable c.args.name.now) past at.lawful zero)
