use Rattle.std.proofs.Common.{◌≡◌, ◌++◌}
use Rattle.auditor.proofs.project.push_all.Given as goal

abbrev pub invariant-loop-whole : goal.invariant-loop-whole
invariant-loop-whole l = l.things ++ l.whole-iterator.rest.items ≡ l.fn.things ++ l.fn.wholes
