use Rattle.std.proofs.Common.{◌≡◌, ◌++◌, List, ℕ, length}
use Rattle.shares.specs.Reading.{ReadsTo}
use Rattle.shares.proofs.reading.LinesTakes.take.Given as goal

abbrev pub invariant-lines : goal.invariant-lines
invariant-lines g l =
    (passed : List ℕ) × (l.fn.piece ≡ passed ++ l.left)
    × ((text : List ℕ) → ReadsTo g.T.TakesLines.Read text l.initial.self → ReadsTo g.T.TakesLines.Read (text ++ passed) l.self)

abbrev pub decreases-lines : goal.decreases-lines
decreases-lines g l = length l.left
