use Rattle.work.specs.declared.report.Report.{Report}
use Rattle.builder.specs.Reports.{SaysNoCone}
use Rattle.builder.proofs.Stages.{refused_by}
use Rattle.builder.proofs.one_build.fresh_of.Goals as goal

pub returns-in_err-cone-clause-refused : goal.returns-in_err-cone-clause-refused
returns-in_err-cone-clause-refused c =
    refused_by (λ (r : Report). SaysNoCone c.args.graph.now c.args.asked.now.given.now c.args.asked.now.targets r) c.in_err-cone.field-0.0 c.from_residual.result c.from_residual.ensures.1 c.in_err-cone.ensures.refused
