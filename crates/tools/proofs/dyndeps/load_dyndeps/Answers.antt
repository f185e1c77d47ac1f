use Rattle.theory.proofs.Looks.{looks_nothing, looks_then}
use Rattle.tools.proofs.dyndeps.load_dyndeps.Goals as goal

pub loop-edge-init : goal.loop-edge-init
loop-edge-init g c = looks_nothing g.S.Texts.tells (g.S.Texts.world c.args.site.now)

pub returns-in_err-load_for : goal.returns-in_err-load_for
returns-in_err-load_for g c = looks_then g.S.Texts.tells (g.S.Texts.world c.args.site.now) (g.S.Texts.world c.loop-edge.site) (g.S.Texts.world c.load_for.new.site) c.loop-edge.invariant c.load_for.ensures

pub loop-edge-preserved : goal.loop-edge-preserved
loop-edge-preserved g c = looks_then g.S.Texts.tells (g.S.Texts.world c.args.site.now) (g.S.Texts.world c.loop-edge.site) (g.S.Texts.world c.load_for.new.site) c.loop-edge.invariant c.load_for.ensures
