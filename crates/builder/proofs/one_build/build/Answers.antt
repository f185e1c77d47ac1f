use Rattle.builder.proofs.Builds.{idle_after}
use Rattle.builder.proofs.Stages.{built_read}
use Rattle.builder.proofs.one_build.build.Goals as goal

-- reading only looked
pub build_read-requires-clause-idle : goal.build_read-requires-clause-idle
build_read-requires-clause-idle g c = idle_after g.S.Texts.tells (g.S.Texts.world c.args.site.now) (g.S.Texts.world c.read.new.site) c.in-Ok.ensures.read.looked.looks c.requires

pub build_read-requires-clause-running : goal.build_read-requires-clause-running
build_read-requires-clause-running g c = c.in-Ok.ensures.read.looked.unrefused.goes_on

pub build_read-requires-clause-formed : goal.build_read-requires-clause-formed
build_read-requires-clause-formed g c = c.in-Ok.ensures.read.formed

pub returns-in-Ok : goal.returns-in-Ok
returns-in-Ok g c =
    built_read g.S.Texts.tells g.S.Site.outcome c.args.options.now c.args.targets.now (g.S.Texts.world c.args.site.now) (g.S.Texts.world c.read.new.site) (g.S.Texts.world c.build_read.new.site) c.requires
    c.in-Ok.reading c.in-Ok.ensures.read c.in-Ok.ensures.given c.build_read.result c.build_read.ensures.0 c.build_read.ensures.1 c.has_format.ensures c.has_reading.ensures c.has_reading-2.ensures
