use Rattle.dyndep.proofs.Answer.{one_answer}
use Rattle.dyndep.proofs.laws.one_answer.Goals as goal

pub returns : goal.returns
returns c = one_answer c.one_form.ensures c.one_reading.ensures
