use Rattle.std.proofs.Common.{length}
use Rattle.lexer.specs.declared.cursor.Cursor.{Cursor}
use Rattle.lexer.specs.Grammar.{AreInRow, IsItem}
use Rattle.lexer.specs.Places.{IsBehind}
use Rattle.lexer.specs.Said.{paths_of}
use Rattle.lexer.specs.Values.{AreBlanks, PathAndBlanks, ends_paths}
use Rattle.lexer.proofs.paths.paths_at.Given as goal

abbrev pub invariant-paths : goal.invariant-paths
invariant-paths l = (start : Cursor) × AreBlanks l.cursor.rest.now start.rest.now × IsBehind l.cursor start × IsBehind start l.at × AreInRow (IsItem PathAndBlanks ends_paths) (paths_of l.paths) start.rest.now l.at.rest.now

abbrev pub decreases-paths : goal.decreases-paths
decreases-paths l = length l.at.rest.now
