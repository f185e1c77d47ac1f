use Rattle.std.proofs.Common.{length}
use denote.Text.{Utf8}
use denote.Shadow.{shadow}
use Rattle.depfile.specs.Words.{WordSoFar}
use Rattle.depfile.proofs.words.word_going_on.Given as goal

abbrev pub invariant-pieces : goal.invariant-pieces
invariant-pieces l = record {
  utf8 : shadow (Utf8 l.at);
  far : WordSoFar l.text l.at l.is_plain l.ends_with_colon;
}

abbrev pub decreases-pieces : goal.decreases-pieces
decreases-pieces l = length l.at
