use Rattle.scopes.proofs.Valuing.{one_value, no_circle_on_the_way}
use Rattle.scopes.proofs.laws.values_are_unique.Goals as goal

pub returns-clause-one_value : goal.returns-clause-one_value
returns-clause-one_value c = one_value

pub returns-clause-no_circle : goal.returns-clause-no_circle
returns-clause-no_circle c = no_circle_on_the_way
