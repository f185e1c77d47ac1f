use Rattle.theory.proofs.Over as law
use Rattle.theory.proofs.no_logs_are_faithful.Goals as goal

pub returns : goal.returns
returns c = law.no_logs_are_faithful
