use Rattle.log_text.proofs.BuildRecordOf.{parts_are_decided_law}
use Rattle.log_text.proofs.laws.parts_are_decided.Goals as goal

pub returns : goal.returns
returns c = parts_are_decided_law
