use Rattle.std.proofs.Common.{◌≡◌, ◌++◌}
use Rattle.trace.proofs.lines.push_all.Given as goal

abbrev pub invariant-loop-fact : goal.invariant-loop-fact
invariant-loop-fact l = l.facts ++ l.fact-iterator.rest.items ≡ l.fn.facts ++ l.fn.more
