use Rattle.std.proofs.Common.{length, string_bytes}
use denote.Text.{Utf8}
use denote.Shadow.{shadow}
use Rattle.depfile.proofs.Fronts.{SpeltSoFar}
use Rattle.depfile.proofs.words.spelling.Given as goal

abbrev pub invariant-pieces : goal.invariant-pieces
invariant-pieces l = record {
  utf8 : shadow (Utf8 l.at);
  far : SpeltSoFar l.text l.at (string_bytes l.word);
}

abbrev pub decreases-pieces : goal.decreases-pieces
decreases-pieces l = length l.at
