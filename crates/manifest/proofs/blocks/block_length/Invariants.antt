use Rattle.std.proofs.Common.{◌≡◌, ◌+◌, map, drop}
use Rattle.lexer.specs.Said.{said_of}
use Rattle.manifest.specs.Blocks.{lines_in_front}
use Rattle.manifest.proofs.blocks.block_length.Given as goal

abbrev pub invariant-loop-count : goal.invariant-loop-count
invariant-loop-count l = lines_in_front (map said_of l.lines) ≡ l.count + lines_in_front (map said_of (drop l.count l.lines))
