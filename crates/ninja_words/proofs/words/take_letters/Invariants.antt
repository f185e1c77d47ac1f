use Rattle.std.proofs.Common.{length}
use Rattle.ninja_words.proofs.words.take_letters.Given as goal

abbrev pub decreases-letters : goal.decreases-letters
decreases-letters l = length l.rest
