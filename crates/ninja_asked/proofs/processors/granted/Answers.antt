use Rattle.theory.proofs.Looks.{looks_then}
use Rattle.ninja_asked.proofs.processors.granted.Goals as goal

pub returns : goal.returns
returns g c = looks_then g.R.Texts.tells (g.R.Texts.world c.args.texts.now) (g.R.Texts.world c.limit_path.new.texts) (g.R.Texts.world c.limit_at.new.texts) c.limit_path.ensures c.limit_at.ensures
