use Rattle.theory.proofs.Looks.{looks_then}
use Rattle.stand_in.proofs.due.explain_left.Goals as goal

pub returns-in_err-explain : goal.returns-in_err-explain
returns-in_err-explain g c = looks_then g.S.Texts.tells (g.S.Texts.world c.args.site.now) (g.S.Texts.world c.left_targets.new.site) (g.S.Texts.world c.explain.new.site) c.left_targets.ensures.looks c.explain.ensures

pub returns : goal.returns
returns g c = looks_then g.S.Texts.tells (g.S.Texts.world c.args.site.now) (g.S.Texts.world c.left_targets.new.site) (g.S.Texts.world c.explain.new.site) c.left_targets.ensures.looks c.explain.ensures
