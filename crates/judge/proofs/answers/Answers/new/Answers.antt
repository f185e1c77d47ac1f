use Rattle.judge.proofs.KeptAnswers.{none_in}
use Rattle.judge.proofs.answers.Answers.new.Goals as goal

pub returns-clause-none : goal.returns-clause-none
returns-clause-none c e = none_in c.new-known.result.items e c.new-known.ensures.items
