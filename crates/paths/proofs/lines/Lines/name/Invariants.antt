use Rattle.std.proofs.Common.{◌≡◌, false, take}
use Rattle.model.specs.Graph.{has_number}
use Rattle.paths.specs.Lists.{all_paths}
use Rattle.paths.proofs.lines.Lines.name.Given as goal

abbrev pub invariant-loop-place : goal.invariant-loop-place
invariant-loop-place l = has_number (all_paths (take l.place l.self)) l.path ≡ false
