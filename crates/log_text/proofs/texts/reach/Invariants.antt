use Rattle.std.proofs.Common.{length, ◌+◌, ◌-◌}
use Rattle.log_text.proofs.texts.reach.Given as goal

abbrev pub decreases-loop-places : goal.decreases-loop-places
decreases-loop-places l = (l.place + 1) - length l.places.items
