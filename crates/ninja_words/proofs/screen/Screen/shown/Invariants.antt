use Rattle.std.proofs.Common.{length}
use Rattle.ninja_words.proofs.screen.Screen.shown.Given as goal

abbrev pub decreases-lines : goal.decreases-lines
decreases-lines l = length l.rest
