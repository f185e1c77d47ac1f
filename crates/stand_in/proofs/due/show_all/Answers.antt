use Rattle.theory.proofs.Looks.{looks_then}
use Rattle.stand_in.proofs.due.show_all.Goals as goal

pub returns-in_err-show_one : goal.returns-in_err-show_one
returns-in_err-show_one g c = looks_then g.S.Texts.tells (g.S.Texts.world c.args.site.now) (g.S.Texts.world c.loop-explanation.site) (g.S.Texts.world c.show_one.new.site) c.loop-explanation.invariant c.show_one.ensures

pub loop-explanation-preserved : goal.loop-explanation-preserved
loop-explanation-preserved g c = looks_then g.S.Texts.tells (g.S.Texts.world c.args.site.now) (g.S.Texts.world c.loop-explanation.site) (g.S.Texts.world c.show_one.new.site) c.loop-explanation.invariant c.show_one.ensures
