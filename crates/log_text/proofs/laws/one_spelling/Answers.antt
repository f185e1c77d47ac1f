use Rattle.log_text.proofs.LawLemmas.{one_spelling_law}
use Rattle.log_text.proofs.laws.one_spelling.Goals as goal

pub returns : goal.returns
returns c = one_spelling_law
