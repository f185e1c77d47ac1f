use Rattle.work.proofs.Telling.{none_of_phony}
use Rattle.work.proofs.laws.phonies_record_none.Goals as goal

pub returns : goal.returns
returns c = none_of_phony
