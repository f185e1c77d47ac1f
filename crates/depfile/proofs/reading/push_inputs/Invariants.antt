use Rattle.std.proofs.Common.{length}
use denote.Text.{Utf8}
use denote.Shadow.{shadow}
use Rattle.depfile.proofs.Once.{SaidSoFar}
use Rattle.depfile.proofs.reading.push_inputs.Given as goal

abbrev pub invariant-rules : goal.invariant-rules
invariant-rules l = record {
  utf8 : shadow (Utf8 l.at);
  far : SaidSoFar l.text l.at l.paths.keys;
}

abbrev pub decreases-rules : goal.decreases-rules
decreases-rules l = length l.at
