use Rattle.std.proofs.Common.{None, map, take}
use Rattle.lexer.specs.Said.{said_of}
use Rattle.manifest.specs.Readings.{Each}
use Rattle.manifest.specs.Readings.Outcome.{Reached}
use Rattle.manifest.specs.Blocks.{block_lines}
use Rattle.manifest.specs.Declarations.{PoolLine}
use Rattle.manifest.specs.Held.{IsStateOf}
use Rattle.manifest.specs.States.{State}
use Rattle.manifest.proofs.kept.Declared.read_depths.Given as goal

abbrev pub invariant-loop-line : goal.invariant-loop-line
invariant-loop-line l = (state : State) → IsStateOf l.self state
    → Each (PoolLine state l.place.file.now.value l.pool) (block_lines (map said_of (take l.line-index l.block))) None (Reached l.depth)
