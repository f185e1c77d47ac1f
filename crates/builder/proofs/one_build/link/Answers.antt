use Rattle.builder.proofs.Stages.{ungraphed_by}
use Rattle.builder.proofs.one_build.link.Goals as goal

pub returns-in_err-build-clause-refused : goal.returns-in_err-build-clause-refused
returns-in_err-build-clause-refused c = ungraphed_by c.args.folder.now c.args.manifest c.in_err-build.field-0.0 c.in_err-build.ensures.fault c.from_residual.result c.from_residual.ensures.1
