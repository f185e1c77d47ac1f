use Rattle.std.proofs.Common.{◌≡◌, ◌≤◌, length}
use denote.Text.{Utf8}
use denote.Shadow.{shadow}
use Rattle.depfile.specs.Signs.{signs}
use Rattle.depfile.specs.Depfile.{inputs}
use Rattle.depfile.specs.Words.{among_targets}
use Rattle.depfile.proofs.rules.targets_at.Given as goal

abbrev pub invariant-targets : goal.invariant-targets
invariant-targets l = record {
  utf8 : shadow (Utf8 l.at);
  left : inputs (signs l.text) ≡ among_targets l.named (signs l.at);
  shorter : length l.at ≤ length l.text;
}

abbrev pub decreases-targets : goal.decreases-targets
decreases-targets l = length l.at
