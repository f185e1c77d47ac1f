use Rattle.theory.proofs.Looks.{looks_then}
use Rattle.ninja_asked.proofs.answers.query_each.Goals as goal

pub returns-in_err-load_maker : goal.returns-in_err-load_maker
returns-in_err-load_maker g c = looks_then g.S.Texts.tells (g.S.Texts.world c.args.site.now) (g.S.Texts.world c.loop-path.site) (g.S.Texts.world c.load_maker.new.site) c.loop-path.invariant c.load_maker.ensures

pub returns-in_err-query : goal.returns-in_err-query
returns-in_err-query g c = looks_then g.S.Texts.tells (g.S.Texts.world c.args.site.now) (g.S.Texts.world c.loop-path.site) (g.S.Texts.world c.load_maker.new.site) c.loop-path.invariant c.load_maker.ensures

pub returns-in_err-push_str : goal.returns-in_err-push_str
returns-in_err-push_str g c = looks_then g.S.Texts.tells (g.S.Texts.world c.args.site.now) (g.S.Texts.world c.loop-path.site) (g.S.Texts.world c.load_maker.new.site) c.loop-path.invariant c.load_maker.ensures

pub loop-path-preserved : goal.loop-path-preserved
loop-path-preserved g c = looks_then g.S.Texts.tells (g.S.Texts.world c.args.site.now) (g.S.Texts.world c.loop-path.site) (g.S.Texts.world c.load_maker.new.site) c.loop-path.invariant c.load_maker.ensures
