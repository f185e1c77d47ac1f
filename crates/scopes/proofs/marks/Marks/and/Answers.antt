use Rattle.scopes.proofs.Marking.{or_left, or_right}
use Rattle.scopes.proofs.marks.Marks.and.Goals as goal

pub returns-clause-these : goal.returns-clause-these
returns-clause-these c = λ k is. or_left c.args.self.keys c.args.other.keys k is

pub returns-clause-others : goal.returns-clause-others
returns-clause-others c = λ k is. or_right c.args.self.keys c.args.other.keys k is
