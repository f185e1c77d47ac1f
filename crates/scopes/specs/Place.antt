-- What a name stands for at a place.
use Rattle.std.specs.Prelude.{ℕ, List, [], unwrap_or}
use Rattle.scopes.specs.declared.block.Block.{Block}
use Rattle.scopes.specs.Block.{block_value}
use Rattle.scopes.specs.Moves.{Move, or_else, value_at}

-- the value in the block, failing that the value at this place of the scope, failing that nothing
abbrev pub value_of_name : Block → List Move → List ℕ → List ℕ
value_of_name block past name = unwrap_or (or_else (block_value block name) (value_at past name)) []
