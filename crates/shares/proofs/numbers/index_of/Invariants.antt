use Rattle.std.proofs.Common.{◌≡◌, ◌++◌, take, drop}
use Rattle.shares.specs.Numbers.{without}
use Rattle.shares.proofs.numbers.index_of.Given as goal

abbrev pub invariant-loop-index : goal.invariant-loop-index
invariant-loop-index l = without l.number l.items ≡ take l.index l.items ++ without l.number (drop l.index l.items)
