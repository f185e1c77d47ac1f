use Rattle.judge.proofs.KeptAnswers.{none_in}
use Rattle.judge.proofs.answers.Answers.forget_all.Goals as goal

pub returns-clause-none : goal.returns-clause-none
returns-clause-none c e = none_in c.clear.new.self.items e c.clear.ensures.items
