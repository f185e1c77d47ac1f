use Rattle.theory.proofs.Looks.{looks_nothing, looks_then}
use Rattle.tools.proofs.told_deps.deps.Goals as goal

pub loop-path-init : goal.loop-path-init
loop-path-init g c = looks_nothing g.S.Texts.tells (g.S.Texts.world c.args.site.now)

pub returns-in_err-push_record : goal.returns-in_err-push_record
returns-in_err-push_record g c =
    looks_then g.S.Texts.tells (g.S.Texts.world c.args.site.now) (g.S.Texts.world c.loop-path.site) (g.S.Texts.world c.push_record.new.site) c.loop-path.invariant c.push_record.ensures

pub loop-path-preserved : goal.loop-path-preserved
loop-path-preserved g c =
    looks_then g.S.Texts.tells (g.S.Texts.world c.args.site.now) (g.S.Texts.world c.loop-path.site) (g.S.Texts.world c.push_record.new.site) c.loop-path.invariant c.push_record.ensures
