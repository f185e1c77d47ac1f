use Rattle.std.proofs.Common.{◌≡◌, drop}
use Rattle.shares.specs.Numbers.{place_of}
use Rattle.shares.proofs.numbers.Numbers.place_of.Given as goal

abbrev pub invariant-loop-numbered : goal.invariant-loop-numbered
invariant-loop-numbered l = place_of l.number l.self ≡ place_of l.number (drop l.numbered-index l.self)
