use Rattle.theory.proofs.Looks.{looks_then}
use Rattle.log_text.specs.BuildLog.{Keeps, compaction}
use Rattle.log_text.specs.BuildRecord.{forms}
use Rattle.log_text.specs.DepsLog.{Keeps as KeepsDeps, compaction as deps_compaction}
use Rattle.log_text.specs.DepsRecordLine.{forms as deps_forms}
use Rattle.records.proofs.Reading.{read_before, read_after}
use Rattle.records.proofs.logs.Logs.read.Goals as goal

pub returns-in_err-deps_log-clause-looks : goal.returns-in_err-deps_log-clause-looks
returns-in_err-deps_log-clause-looks g c =
    looks_then g.S.Texts.tells (g.S.Texts.world c.args.site.now) (g.S.Texts.world c.read.new.site) (g.S.Texts.world c.read-2.new.site) c.in_ok-build_log.ensures.looks c.in_err-deps_log.ensures.looks

pub returns-clause-looks : goal.returns-clause-looks
returns-clause-looks g c =
    looks_then g.S.Texts.tells (g.S.Texts.world c.args.site.now) (g.S.Texts.world c.read.new.site) (g.S.Texts.world c.read-2.new.site) c.in_ok-build_log.ensures.looks c.in_ok-deps_log.ensures.looks

pub returns-clause-read : goal.returns-clause-read
returns-clause-read g c =
    let tells = g.S.Texts.tells in
    let old = g.S.Texts.world c.args.site.now in
    let mid = g.S.Texts.world c.read.new.site in
    let new = g.S.Texts.world c.read-2.new.site in
    let a = c.in_ok-build_log.ensures.read in
    let b = c.in_ok-deps_log.ensures.read in (
      a.0,
      b.0,
      record {
        build_log = read_before forms Keeps compaction tells old mid new a.0 c.in_ok-build_log.build_log a.1 c.in_ok-deps_log.ensures.looks;
        deps_log = read_after deps_forms KeepsDeps deps_compaction tells old mid new b.0 c.in_ok-deps_log.deps_log c.in_ok-build_log.ensures.looks b.1;
      },
    )
