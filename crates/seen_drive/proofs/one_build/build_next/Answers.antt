use Rattle.std.proofs.Common.{inr}
use Rattle.seen_drive.proofs.one_build.build_next.Goals as goal

pub returns-in-Ok-clause-built : goal.returns-in-Ok-clause-built
returns-in-Ok-clause-built g c = inr (record {
  reading = c.in-Ok.reading;
  between = g.S.Texts.world c.read.new.site;
  was_read = c.in-Ok.ensures.read;
  given = c.in-Ok.ensures.given;
  built = c.build_read.ensures.built;
})
