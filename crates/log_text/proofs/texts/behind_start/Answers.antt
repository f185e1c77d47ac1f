use Rattle.std.proofs.lemmas.Bool.Decides.{Decides-eqb}
use Rattle.std.proofs.lemmas.Slice.Eq.{strip_prefix_is}
use Rattle.log_text.proofs.Notes.{stripped}
use Rattle.log_text.proofs.texts.behind_start.Goals as goal

pub returns : goal.returns
returns c = stripped c.args.bytes.now c.args.start.now c.strip_prefix.result (strip_prefix_is Decides-eqb c.args.bytes.now c.args.start.now c.strip_prefix.result c.strip_prefix.ensures.cases)
