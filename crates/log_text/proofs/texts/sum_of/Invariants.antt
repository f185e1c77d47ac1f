use Rattle.std.proofs.Common.{length}
use Rattle.log_text.proofs.texts.sum_of.Given as goal

abbrev pub decreases-loop-chunk : goal.decreases-loop-chunk
decreases-loop-chunk l = length l.rest
