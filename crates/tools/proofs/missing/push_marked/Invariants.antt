use Rattle.std.proofs.Common.{◌≡◌, ◌++◌, false, filter, get_or, take}
use Rattle.tools.proofs.missing.push_marked.Given as goal

abbrev pub invariant-loop-path : goal.invariant-loop-path
invariant-loop-path l = l.outputs.items ≡ l.initial.outputs.items ++ filter (λ p. get_or l.marks p false) (take l.path-index l.paths)
