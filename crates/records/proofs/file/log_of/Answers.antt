use Rattle.site.specs.Files.{text_in}
use Rattle.records.proofs.file.log_of.Goals as goal

pub returns : goal.returns
returns g c = λ held to.
    let read = c.finish-log.ensures (text_in held) to in (
      read.0,
      (c.finish-log.result.1, read.1),
      read.2,
      c.state_of-state.ensures (text_in held) (c.is_empty-is_empty.ensures (text_in held) to) read.0 read.1 read.2,
    )
