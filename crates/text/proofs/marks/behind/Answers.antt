use Rattle.std.proofs.lemmas.Bool.Decides.{Decides-eqb}
use Rattle.std.proofs.lemmas.Slice.Eq.{strip_prefix_is}
use Rattle.text.proofs.Parts.{stripped, not_stripped}
use Rattle.text.proofs.marks.behind.Goals as goal

pub returns-clause-found : goal.returns-clause-found
returns-clause-found c = stripped c.args.bytes.now c.args.front.now c.strip_prefix.result (strip_prefix_is Decides-eqb c.args.bytes.now c.args.front.now c.strip_prefix.result c.strip_prefix.ensures.cases)

pub returns-clause-none : goal.returns-clause-none
returns-clause-none c = not_stripped c.args.bytes.now c.args.front.now c.strip_prefix.result (strip_prefix_is Decides-eqb c.args.bytes.now c.args.front.now c.strip_prefix.result c.strip_prefix.ensures.cases)
