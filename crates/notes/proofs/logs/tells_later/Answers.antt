use Rattle.notes.proofs.Rest.{read_on}
use Rattle.notes.proofs.logs.tells_later.Goals as goal

pub loop-line-preserved : goal.loop-line-preserved
loop-line-preserved c = read_on c.args.log.now c.loop-line.invariant.0 c.loop-line.rest.now c.in-Some.line.now c.in-Some.after.now c.loop-line.invariant.1 c.in-Some.ensures.found
