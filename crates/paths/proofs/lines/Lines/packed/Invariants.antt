use Rattle.std.proofs.Common.{◌≡◌, take}
use Rattle.paths.proofs.lines.Lines.packed.Given as goal

abbrev pub invariant-loop-place : goal.invariant-loop-place
invariant-loop-place l = l.packed ≡ take l.place l.self
