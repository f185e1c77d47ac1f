use Rattle.theory.proofs.Looks.{looks_then}
use Rattle.tools.proofs.dyndeps.load_above.Goals as goal

pub returns-in_err-load_for : goal.returns-in_err-load_for
returns-in_err-load_for g c = looks_then g.S.Texts.tells (g.S.Texts.world c.args.site.now) (g.S.Texts.world c.loop.site) (g.S.Texts.world c.load_for.new.site) c.loop.invariant c.load_for.ensures

pub returns-in_err-open_reversed : goal.returns-in_err-open_reversed
returns-in_err-open_reversed g c = looks_then g.S.Texts.tells (g.S.Texts.world c.args.site.now) (g.S.Texts.world c.loop.site) (g.S.Texts.world c.load_for.new.site) c.loop.invariant c.load_for.ensures

pub loop-preserved : goal.loop-preserved
loop-preserved g c = looks_then g.S.Texts.tells (g.S.Texts.world c.args.site.now) (g.S.Texts.world c.loop.site) (g.S.Texts.world c.load_for.new.site) c.loop.invariant c.load_for.ensures
