use Rattle.std.proofs.Common.{◌∙◌, sym}
use Rattle.judge.proofs.KeptAnswers.{due_of}
use Rattle.judge.proofs.answers.Answers.get.Goals as goal

-- what was found by such a depfile
pub returns-in-Some : goal.returns-in-Some
returns-in-Some c = due_of c.args.self.now c.args.edge c.args.depfile c.in-Some.answer c.due_by.result (sym c.answer_of.ensures ∙ c.in-Some.is) c.due_by.ensures
