-- The pools of edges.
use Rattle.std.specs.Prelude.{ℕ, ◌==◌, if◌then◌else◌, List, [], ◌∷◌, ◌++◌, map, length, Option, None, Some, bytes_eq}
use Rattle.model.specs.declared.graph.Pool.{Pool}
use Rattle.model.specs.Graph.{console, later_number}
use Rattle.paths.specs.declared.manifest.Action.{Action}
use Rattle.paths.specs.declared.manifest.Action.TheVariants as action

-- the place of the first pool with this name, where it has a limit
abbrev pub limited : List Pool → List ℕ → Option ℕ
limited [] name = None
limited (pool ∷ pools) name = if bytes_eq pool.name name then (if pool.depth == 0 then None else Some 0) else later_number (limited pools name)

-- the place of the pool with this name, where it has a limit: the one for the terminal stands behind the declared ones (manual: "Pools")
abbrev pub place_of : List Pool → List ℕ → Option ℕ
place_of pools name = if bytes_eq name console then Some (length pools) else limited pools name

-- the same for a name, where one is given
abbrev pub place_in : List Pool → Option (List ℕ) → Option ℕ
place_in pools None = None
place_in pools (Some name) = place_of pools name

-- the name of the pool that an edge names
abbrev pub pool_of : Action → Option (List ℕ)
pool_of action.Alias = None
pool_of (action.Command command) = command.pool

-- how many commands of each pool may run at once, of the one for the terminal one (manual: "The `console` pool")
abbrev pub depths_of : List Pool → List ℕ
depths_of pools = map (λ (pool : Pool). pool.depth) pools ++ 1 ∷ []
