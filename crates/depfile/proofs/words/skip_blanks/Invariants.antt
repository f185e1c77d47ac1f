use Rattle.std.proofs.Common.{length}
use denote.Text.{Utf8}
use denote.Shadow.{shadow}
use Rattle.depfile.specs.Words.{IsBehindBlanks}
use Rattle.depfile.proofs.words.skip_blanks.Given as goal

abbrev pub invariant-blanks : goal.invariant-blanks
invariant-blanks l = record {
  utf8 : shadow (Utf8 l.at);
  far : IsBehindBlanks l.text l.at;
}

abbrev pub decreases-blanks : goal.decreases-blanks
decreases-blanks l = length l.at
