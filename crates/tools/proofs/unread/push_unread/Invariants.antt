use Rattle.std.proofs.Common.{◌≡◌, ◌++◌, take}
use Rattle.tools.specs.Roots.{unread}
use Rattle.tools.proofs.unread.push_unread.Given as goal

abbrev pub invariant-loop-path : goal.invariant-loop-path
invariant-loop-path l = l.roots.items ≡ l.initial.roots.items ++ unread l.graph (take l.path-index l.paths)
