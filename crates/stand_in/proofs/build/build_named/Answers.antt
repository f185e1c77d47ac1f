use Rattle.model.specs.declared.fault.SiteFault.TheVariants.{Memory}
use Rattle.work.specs.declared.report.Report.TheVariants.{Fault}
use Rattle.stand_in.proofs.Ready.{ready_built}
use Rattle.stand_in.proofs.Stages.{memory_end, outcome_by, prepared_then}
use Rattle.stand_in.proofs.build.build_named.Goals as goal

pub returns-in_err-asked : goal.returns-in_err-asked
returns-in_err-asked g c = λ entry ready.
    let now = g.S.Texts.world c.args.site.now in
    let looked = ready.since in
    outcome_by g.S.Texts.tells g.S.Site.outcome c.args.options.now entry now (Fault Memory)
    (memory_end g.S.Texts.tells g.S.Site.outcome c.args.options.now entry now (prepared_then g.S.Texts.tells g.S.Site.outcome c.args.options.now entry ready.read now (prepared_then g.S.Texts.tells g.S.Site.outcome c.args.options.now entry ready.entry ready.read ready.prepared ready.was_read.looked.looks) looked.looks) looked.unrefused.goes_on)
    c.from_residual.result c.from_residual.ensures.1

pub build_holding-report-requires-clause-running : goal.build_holding-report-requires-clause-running
build_holding-report-requires-clause-running g c = c.requires.ready.1.since.unrefused.goes_on

pub build_holding-report-requires-clause-formed : goal.build_holding-report-requires-clause-formed
build_holding-report-requires-clause-formed g c = c.requires.ready.1.was_read.formed

pub build_holding-report-requires-clause-linked : goal.build_holding-report-requires-clause-linked
build_holding-report-requires-clause-linked g c = c.requires.ready.1.was_read.linked

pub returns : goal.returns
returns g c = λ entry ready.
    ready_built g.S.Texts.tells g.S.Site.outcome c.args.options.now c.args.targets.now entry (g.S.Texts.world c.args.site.now) (g.S.Texts.world c.build_holding-report.new.site) c.requires.idle c.args.declared ready c.in_ok-asked.asked c.in_ok-asked.ensures.given c.in_ok-asked.ensures.targets
    c.in_ok-asked.ensures.folder c.in_ok-asked.ensures.limits c.build_holding-report.result c.build_holding-report.ensures.0 c.build_holding-report.ensures.1 c.has_format.ensures c.has_reading.ensures c.has_reading-2.ensures
