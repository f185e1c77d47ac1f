use Rattle.auditor.proofs.Things.{all_given}
use Rattle.auditor.proofs.given.by_given_names.Goals as goal

pub returns-then-is_empty : goal.returns-then-is_empty
returns-then-is_empty c = all_given c.args.wholes
