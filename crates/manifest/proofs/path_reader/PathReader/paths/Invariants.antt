use Rattle.std.proofs.Common.{◌≡◌, false, List, take}
use Rattle.lexer.specs.Said.{paths_of}
use Rattle.scopes.specs.Moves.{Move}
use Rattle.scopes.specs.Scopes.{IsScopesOf}
use Rattle.scopes.specs.Place.{value_of_name}
use Rattle.manifest.specs.Expansion.{ArePaths}
use Rattle.manifest.specs.Flags.{FlagsAfter}
use Rattle.manifest.proofs.path_reader.PathReader.paths.Given as goal

abbrev pub invariant-loop-value : goal.invariant-loop-value
invariant-loop-value l = record {
  scopes : l.self.scopes.now ≡ l.fn.self.scopes.now;
  block : l.self.block.now ≡ l.fn.self.block.now;
  flags : (past : List Move) → IsScopesOf l.fn.self.scopes.now past
      → FlagsAfter l.fn.self l.self (value_of_name l.fn.self.block.now past) (paths_of (take l.value-index l.values));
  paths : (past : List Move) → IsScopesOf l.fn.self.scopes.now past → l.self.has_empty ≡ false → l.self.has_large ≡ false
      → ArePaths (value_of_name l.fn.self.block.now past) (paths_of (take l.value-index l.values)) l.paths;
}
