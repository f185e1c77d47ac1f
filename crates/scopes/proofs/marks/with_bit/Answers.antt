use Rattle.scopes.proofs.Marking.{or_left, or_right, one_bit}
use Rattle.scopes.proofs.marks.with_bit.Goals as goal

pub returns-clause-set : goal.returns-clause-set
returns-clause-set c = or_right c.args.keys _ c.args.bit (one_bit c.args.bit c.requires)

pub returns-clause-kept : goal.returns-clause-kept
returns-clause-kept c = λ k is. or_left c.args.keys _ k is
