use Rattle.std.proofs.Common.{◌-◌, length}
use Rattle.ninja_words.proofs.words.asked.Given as goal

abbrev pub decreases-words : goal.decreases-words
decreases-words l = length l.words - l.place
