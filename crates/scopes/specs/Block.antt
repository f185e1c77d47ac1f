-- What the block of a build statement binds, as a function of names.
use Rattle.std.specs.Prelude.{ℕ, List, [], ◌∷◌, Option, None, Some, if◌then◌else◌, bytes_eq}
use Rattle.std.specs.Option.{option_map, option_flatten}
use Rattle.indexmap.specs.IndexMap.{get_by_text}
use Rattle.scopes.specs.declared.block.Block.{Block}
use Rattle.scopes.specs.declared.block.Bound.{Bound}
use Rattle.scopes.specs.Moves.{or_else}

-- the value of a name by one binding
abbrev pub bound_value : Bound → List ℕ → Option (List ℕ)
bound_value bound name = if bytes_eq bound.name name then Some bound.value else None

-- the value of a name by bindings of which the last one stands
abbrev pub last_value : List Bound → List ℕ → Option (List ℕ)
last_value [] name = None
last_value (bound ∷ rest) name = or_else (last_value rest name) (bound_value bound name)

abbrev pub first_value : Option Bound → List ℕ → Option (List ℕ)
first_value first name = option_flatten (option_map (λ bound. bound_value bound name) first)

-- the value of a name by the table
abbrev pub other_value : Block → List ℕ → Option (List ℕ)
other_value block name = option_flatten (option_map (λ others. get_by_text others.value name) block.others)

abbrev pub block_value : Block → List ℕ → Option (List ℕ)
block_value block name = or_else (other_value block name) (or_else (last_value block.few.items name) (first_value block.first name))
