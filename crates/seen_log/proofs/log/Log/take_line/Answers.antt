use Rattle.seen_log.specs.Record.{noting}
use Rattle.seen_log.proofs.log.Log.take_line.Goals as goal

pub returns-in-Some : goal.returns-in-Some
returns-in-Some c = (noting c.in-Some.path.now c.in-Some.noted, c.in-Some.ensures, c.in_ok-note_in.ensures.ok)
