use Rattle.std.proofs.lemmas.Bool.Decides.{Decides-eqb}
use Rattle.std.proofs.lemmas.Slice.Eq.{strip_prefix_is}
use Rattle.graph.proofs.Parts.{match_some, match_none}
use Rattle.graph.proofs.side_files.rest_after.Goals as goal

pub returns-clause-some : goal.returns-clause-some
returns-clause-some c = match_some _ _ c.strip_prefix.result (strip_prefix_is Decides-eqb c.args.bytes.now c.args.start.now c.strip_prefix.result c.strip_prefix.ensures.cases)

pub returns-clause-none : goal.returns-clause-none
returns-clause-none c = match_none _ _ c.strip_prefix.result (strip_prefix_is Decides-eqb c.args.bytes.now c.args.start.now c.strip_prefix.result c.strip_prefix.ensures.cases)
