use Rattle.graph.proofs.ReadThrough as law
use Rattle.graph.proofs.laws.reading_stands.Goals as goal

pub returns : goal.returns
returns c = law.reading_stands c.args.graph.now
