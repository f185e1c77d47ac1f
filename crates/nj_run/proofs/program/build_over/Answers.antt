use Rattle.std.proofs.Common.{ap}
use Rattle.seen.specs.Begun.{plainly_begun}
use Rattle.nj_run.proofs.Passing.{builds_from, idle_at}
use Rattle.nj_run.proofs.program.build_over.Goals as goal

pub build_on-report-requires : goal.build_on-report-requires
build_on-report-requires g c = record { idle = idle_at g.S.Texts.tells plainly_begun _ (g.S.Texts.world c.args.site) c.requires.untold (ap g.S.Texts.world c.new-seen.ensures) c.requires.idle }

pub returns : goal.returns
returns g c =
    builds_from g.S.Texts.tells plainly_begun g.S.Site.outcome c.args.asked.now _ (g.S.Texts.world c.args.site) _ c.build_on-report.result.0 c.requires.untold (ap g.S.Texts.world c.new-seen.ensures)
    c.build_on-report.ensures
