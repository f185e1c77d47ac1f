use Rattle.theory.proofs.Looks.{looks_nothing}
use Rattle.tools.proofs.dyndeps.Dyndeps.load_for.Goals as goal

pub returns-in_err-next : goal.returns-in_err-next
returns-in_err-next g c = looks_nothing g.S.Texts.tells (g.S.Texts.world c.args.site.now)
