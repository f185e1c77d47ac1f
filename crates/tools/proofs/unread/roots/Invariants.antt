use Rattle.std.proofs.Common.{◌≡◌, take}
use Rattle.std.specs.List.{flat_map}
use Rattle.paths.specs.Lists.{line_outputs}
use Rattle.tools.specs.Roots.{unread}
use Rattle.tools.proofs.unread.roots.Given as goal

abbrev pub invariant-loop-place : goal.invariant-loop-place
invariant-loop-place l = l.roots.items ≡ unread l.graph (flat_map line_outputs (take l.place l.graph.manifest.lines))
