use Rattle.model.specs.declared.fault.SiteFault.TheVariants.{Memory}
use Rattle.work.specs.declared.report.Report.TheVariants.{Fault}
use Rattle.stand_in.proofs.Stages.{alone_looks, end_by, memory_end, prepared_at}
use Rattle.stand_in.proofs.build.build_declared.Goals as goal

pub returns-in_err-above : goal.returns-in_err-above
returns-in_err-above g c = λ entry was. end_by g.S.Texts.tells g.S.Site.outcome c.args.options.now entry (g.S.Texts.world c.args.site.now) (Fault Memory) (memory_end g.S.Texts.tells g.S.Site.outcome c.args.options.now entry (g.S.Texts.world c.args.site.now) (prepared_at g.S.Texts.tells g.S.Site.outcome c.args.options.now entry (g.S.Texts.world c.args.site.now) (alone_looks g.S.Texts.tells g.S.Site.outcome c.args.options.now entry (g.S.Texts.world c.args.site.now) c.args.declared was)) was.since.unrefused.goes_on) c.from_residual.result c.from_residual.ensures.1
