-- The places of pools by their names.
use Rattle.std.specs.Prelude.{◌≡◌, ℕ, if◌then◌else◌, List, Option, bytes_eq}
use Rattle.std.specs.Option.{option_flatten}
use Rattle.indexmap.specs.IndexMap.{get_by_text}
use Rattle.model.specs.declared.graph.Pool.{Pool}
use Rattle.plan.specs.declared.by_name.Places.{Places}
use Rattle.plan.specs.Pools.{limited}

-- the place that is kept for a name
abbrev pub place_by : Places → List ℕ → Option ℕ
place_by places name = option_flatten (get_by_text places.by_name name)

-- for each name the place of the first pool with it is kept, where that has a limit
abbrev pub ArePlaces : List Pool → Places → Type 0
ArePlaces pools places = (name : List ℕ) → place_by places name ≡ limited pools name

-- the name has this place, and each other name the place that it had
abbrev pub IsPlaced : List ℕ → Option ℕ → Places → Places → Type 0
IsPlaced name place old new = (other : List ℕ) → place_by new other ≡ (if bytes_eq name other then place else place_by old other)
