use Rattle.theory.proofs.RunLawsStated as law
use Rattle.theory.proofs.schedule_settles_in_order.Goals as goal

pub returns : goal.returns
returns c = law.schedule_settles_in_order
