use Rattle.std.proofs.Common.{◌≤◌, List, ℕ, length}
use denote.Text.{Utf8}
use denote.Shadow.{shadow}
use Rattle.depfile.specs.Kept.{AreKept}
use Rattle.depfile.proofs.Once.{AddsSoFar}
use Rattle.depfile.proofs.rules.inputs_at.Given as goal

abbrev pub invariant-inputs : goal.invariant-inputs
invariant-inputs l = record {
  utf8 : shadow (Utf8 l.at);
  far : (all : List (List ℕ)) → AreKept all l.fn.paths.keys → AddsSoFar l.text l.at all l.paths.keys;
  shorter : length l.at ≤ length l.text;
}

abbrev pub decreases-inputs : goal.decreases-inputs
decreases-inputs l = length l.at
