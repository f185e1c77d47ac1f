use Rattle.theory.proofs.Looks.{looks_nothing}
use Rattle.nj_run.proofs.program.explain_on.Goals as goal

pub returns-in-Err : goal.returns-in-Err
returns-in-Err g c = looks_nothing g.S.Texts.tells (g.S.Texts.world c.args.site.now)
