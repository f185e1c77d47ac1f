use Rattle.tools.proofs.Cleans.{lacks_same}
use Rattle.tools.proofs.cleaning.without.Goals as goal

pub returns-in-None : goal.returns-in-None
returns-in-None c = lacks_same c.args.paths c.args.file.now c.in-None.ensures.place
