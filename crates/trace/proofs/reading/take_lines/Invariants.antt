use Rattle.std.proofs.Common.{◌≡◌, length}
use Rattle.trace.specs.Lines.{after_text_of}
use Rattle.trace.proofs.reading.take_lines.Given as goal

abbrev pub invariant-lines : goal.invariant-lines
invariant-lines l = after_text_of l.start l.initial.reached l.trace ≡ after_text_of l.start l.reached l.rest

abbrev pub decreases-lines : goal.decreases-lines
decreases-lines l = length l.rest
