use Rattle.depfile.proofs.Once.{one_answer}
use Rattle.depfile.proofs.laws.one_answer.Goals as goal

pub returns : goal.returns
returns c = one_answer c.one_form.ensures
