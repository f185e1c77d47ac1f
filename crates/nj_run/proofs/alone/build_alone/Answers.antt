use Rattle.std.proofs.Common.{◌∙◌}
use Rattle.nj_run.proofs.Passing.{built_alone, idle_passed, looked_passes, passes_looked}
use Rattle.nj_run.proofs.alone.build_alone.Goals as goal

pub build_leaving-requires-clause-idle : goal.build_leaving-requires-clause-idle
build_leaving-requires-clause-idle g c =
    let was = c.in-Ok.ensures.read in
    rw c.learn.ensures (idle_passed g.S.Texts.tells was.entry _ (passes_looked _ _ _ (looked_passes _ _ _ _ was.was_read.looked was.since)) (idle_passed _ _ _ was.before c.requires))

pub build_leaving-requires-clause-running : goal.build_leaving-requires-clause-running
build_leaving-requires-clause-running g c =
    let was = c.in-Ok.ensures.read in rw c.learn.ensures (was.since.stopped ∙ was.was_read.looked.unrefused.goes_on)

pub build_leaving-requires-clause-formed : goal.build_leaving-requires-clause-formed
build_leaving-requires-clause-formed g c = c.in-Ok.ensures.read.was_read.formed

pub returns-in-Ok : goal.returns-in-Ok
returns-in-Ok g c =
    built_alone g.S.Texts.tells g.S.Site.outcome c.args.options.now c.args.targets.now (g.S.Texts.world c.args.site.now) (g.S.Texts.world c.read_alone.new.site) (g.S.Texts.world c.build_leaving.new.site) c.requires
    c.in-Ok.reading c.in-Ok.ensures.read c.build_leaving.result.0 c.build_leaving.ensures.0 (rw c.learn.ensures at (c.build_leaving.ensures.1)) c.has_format.ensures c.has_reading.ensures c.has_reading-2.ensures
