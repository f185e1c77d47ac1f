use Rattle.theory.proofs.Looks.{looks_nothing}
use Rattle.tools.proofs.dyndeps.load_some.Goals as goal

pub returns-in-None : goal.returns-in-None
returns-in-None g c = looks_nothing g.S.Texts.tells (g.S.Texts.world c.args.site.now)
