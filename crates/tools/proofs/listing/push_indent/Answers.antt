use Rattle.tools.proofs.Leveled.{indented_next}
use Rattle.tools.proofs.listing.push_indent.Goals as goal

pub loop-preserved : goal.loop-preserved
loop-preserved c = indented_next c.loop.counter _ _ _ c.loop.invariant c.in_ok-push_str.ensures.bytes
