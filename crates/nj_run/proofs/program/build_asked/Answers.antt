use Rattle.std.proofs.Common.{rules}
use Rattle.std.specs.Prelude.{is_some}
use Rattle.nj_run.proofs.Ends.{no_folder, reported}
use Rattle.nj_run.proofs.program.build_asked.Goals as goal

pub returns-in-Err-clause-comes : goal.returns-in-Err-clause-comes
returns-in-Err-clause-comes g c = no_folder c.args.asked.now _ _ _ _ _ c.in-Some.folder.now c.folder.result (search rules) c.folder.ensures

pub returns-clause-comes : goal.returns-clause-comes
returns-clause-comes g c =
    reported c.args.asked.now _ _ _ c.build_here-report.new.out _ _ _ c.build_here-report.result.0 (is_some c.as_ref.result) c.report.result
    (search rules) (search rules) c.build_here-report.ensures c.report.ensures.status c.report.ensures.out c.report.ensures.err
