use Rattle.std.proofs.Common.{List, ℕ, subst}
use Rattle.model.specs.World.{file_at, content_of}
use Rattle.model.specs.Calls.{Sees}
use Rattle.site.specs.Files.{text_in}
use Rattle.records.proofs.file.LogFile.read.Goals as goal

pub log_of-log-requires : goal.log_of-log-requires
log_of-log-requires g c =
    let took = c.in_ok-read_into.ensures.content c.new-pieces.ensures in
    (text_in took.0, took.1)

pub returns-clause-read : goal.returns-clause-read
returns-clause-read g c =
    let took = c.in_ok-read_into.ensures.content c.new-pieces.ensures in
    let judged = c.log_of-log.ensures took.0 took.1 in
    let old = (g.S.Texts.world c.args.site.now).history in
    let new = (g.S.Texts.world c.read_into.new.self).history in (
      judged.0,
      record {
        content = took.0;
        read = record { records = judged.1; keeps = judged.2; state = judged.3 };
        seen = λ tells. subst (λ (path : List ℕ). Sees (λ history. content_of (file_at history path)) took.0 old new) c.as_str.ensures.value (took.2 tells);
      },
    )
