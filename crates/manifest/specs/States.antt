-- What build files said so far.
use Rattle.std.specs.Prelude.{ℕ, ◌+◌, Bool, if◌then◌else◌, List, [], ◌∷◌, ◌++◌, Option, bytes_eq}
use Rattle.std.specs.List.{flat_map}
use Rattle.model.specs.declared.graph.Pool.{Pool}
use Rattle.model.specs.Graph.{has}
use Rattle.scopes.specs.declared.template.Rule.{Rule}
use Rattle.scopes.specs.Moves.{Move, open_scopes}
use Rattle.manifest.specs.Spelled.{EdgePaths}
use Rattle.manifest.specs.Readings.{Place}
use Rattle.manifest.specs.Expansion.{Bound}

-- a build statement; one of the rule `phony` has no rule
pub record Build : Type 0 where
  pub place : Place
  -- the number of the scope in which it stands
  pub scope : ℕ
  pub rule_name : List ℕ
  pub rule : Option Rule
  -- what its block binds, the latest first
  pub block : List Bound
  pub paths : EdgePaths

-- a path of a `default` statement
pub record Default : Type 0 where
  pub place : Place
  pub path : List ℕ

pub record State : Type 0 where
  -- what was said in scopes, the latest first
  pub past : List Move
  pub builds : List Build
  pub pools : List Pool
  pub defaults : List Default

abbrev pub nothing : State
nothing = record { past = []; builds = []; pools = []; defaults = [] }

-- ---- what is said next

abbrev pub with_move : Move → State → State
with_move move state = record { past = move ∷ state.past; builds = state.builds; pools = state.pools; defaults = state.defaults }

abbrev pub with_build : Build → State → State
with_build build state = record { past = state.past; builds = state.builds ++ build ∷ []; pools = state.pools; defaults = state.defaults }

abbrev pub with_pool : Pool → State → State
with_pool pool state = record { past = state.past; builds = state.builds; pools = state.pools ++ pool ∷ []; defaults = state.defaults }

abbrev pub with_defaults : List Default → State → State
with_defaults defaults state = record { past = state.past; builds = state.builds; pools = state.pools; defaults = state.defaults ++ defaults }

-- ---- questions

-- the number of the open scope
abbrev pub first_or : ℕ → List ℕ → ℕ
first_or other [] = other
first_or other (n ∷ ns) = n

abbrev pub present : State → ℕ
present state = first_or 0 (open_scopes state.past)

abbrev pub is_pool : List Pool → List ℕ → Bool
is_pool [] name = Bool.false
is_pool (pool ∷ pools) name = if bytes_eq pool.name name then Bool.true else is_pool pools name

-- all paths of a build line
abbrev pub all_of : EdgePaths → List (List ℕ)
all_of paths =
    paths.explicit_outputs ++ (paths.implicit_outputs ++ (paths.explicit_inputs ++ (paths.implicit_inputs
    ++ (paths.order_only_inputs ++ paths.validations))))

-- all paths of build lines
abbrev pub named : List Build → List (List ℕ)
named builds = flat_map (λ (build : Build). all_of build.paths) builds

-- how many different paths these are
abbrev pub different : List (List ℕ) → ℕ
different [] = 0
different (path ∷ paths) = (if has paths path then 0 else 1) + different paths
