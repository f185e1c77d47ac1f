use Rattle.std.proofs.lemmas.Bool.Decides.{Decides-eqb}
use Rattle.std.proofs.lemmas.Slice.Eq.{strip_prefix_is}
use Rattle.terminal.proofs.Pieces.{match_some}
use Rattle.terminal.proofs.stays.rest_after.Goals as goal

pub returns : goal.returns
returns c = match_some _ _ c.strip_prefix.result (strip_prefix_is Decides-eqb c.args.bytes.now c.args.start.now c.strip_prefix.result c.strip_prefix.ensures.cases)
