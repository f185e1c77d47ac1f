use Rattle.std.proofs.Common.{ℕ, List, drop}
use Rattle.scopes.specs.Moves.{Move}
use Rattle.scopes.specs.Scopes.{IsScopesOf}
use Rattle.manifest.proofs.BuildBlocks.{IsBlockSoFar}
use Rattle.manifest.proofs.builds.read_block.Given as goal

abbrev pub invariant-loop-line : goal.invariant-loop-line
invariant-loop-line l = (past : List Move) → IsScopesOf l.scopes past → (file : List ℕ) → IsBlockSoFar file past l.block l.lines (drop l.line-index l.lines)
