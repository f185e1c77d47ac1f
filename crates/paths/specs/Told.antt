-- The build graph of texts that a manifest stands for.
use Rattle.std.specs.Prelude.{◌≡◌, ℕ, Bool, true, false, List, [], ◌∷◌, map, Some, None, get_or, slice_get}
use Rattle.std.specs.Option.{option_map}
use Rattle.model.specs.declared.graph.BuildGraph.{BuildGraph}
use Rattle.model.specs.declared.graph.Edge.{Edge}
use Rattle.model.specs.declared.graph.Deps.TheVariants.{Unset}
use Rattle.model.specs.Graph.{is_named, has_number}
use Rattle.paths.specs.Lists.{all_paths}
use Rattle.paths.specs.declared.line.Line.{Line}
use Rattle.paths.specs.declared.manifest.Action.{Action}
use Rattle.paths.specs.declared.manifest.Action.TheVariants.{Alias, Command}
use Rattle.paths.specs.declared.manifest.Manifest.{Manifest}

-- the text of a number; the empty one for a number that no path has
abbrev pub text_at : List (List ℕ) → ℕ → List ℕ
text_at paths number = get_or paths number []

abbrev pub texts_at : List (List ℕ) → List ℕ → List (List ℕ)
texts_at paths numbers = map (text_at paths) numbers

-- the edge of a line
abbrev pub edge_of : List (List ℕ) → Line → Action → Edge
edge_of paths line Alias = record {
  explicit_outputs = texts_at paths line.explicit_outputs;
  implicit_outputs = texts_at paths line.implicit_outputs;
  explicit_inputs = texts_at paths line.explicit_inputs;
  implicit_inputs = texts_at paths line.implicit_inputs;
  order_only_inputs = texts_at paths line.order_only_inputs;
  validations = texts_at paths line.validations;
  act = record { command = []; depfile = []; response_path = []; response_content = [] };
  description = [];
  deps = Unset;
  restat = false;
  pool = None;
  dyndep = None;
  phony = true;
}
edge_of paths line (Command command) = record {
  explicit_outputs = texts_at paths line.explicit_outputs;
  implicit_outputs = texts_at paths line.implicit_outputs;
  explicit_inputs = texts_at paths line.explicit_inputs;
  implicit_inputs = texts_at paths line.implicit_inputs;
  order_only_inputs = texts_at paths line.order_only_inputs;
  validations = texts_at paths line.validations;
  act = command.act;
  description = command.description;
  deps = command.deps;
  restat = command.restat;
  pool = command.pool;
  dyndep = option_map (text_at paths) command.dyndep;
  phony = false;
}

abbrev pub edges_of : List (List ℕ) → List Line → List Action → List Edge
edges_of paths [] actions = []
edges_of paths (line ∷ lines) [] = []
edges_of paths (line ∷ lines) (action ∷ actions) = edge_of paths line action ∷ edges_of paths lines actions

abbrev pub graph_of : Manifest → BuildGraph
graph_of manifest = record {
  edges = edges_of manifest.paths manifest.lines manifest.actions;
  pools = manifest.pools;
  defaults = texts_at manifest.paths manifest.defaults;
  builddir = manifest.builddir;
}

-- no edge names the path
abbrev pub IsUnnamed : Manifest → List ℕ → Type 0
IsUnnamed manifest path = is_named (graph_of manifest).edges path ≡ false

-- whether an edge names the path with this number
abbrev pub lines_name : Manifest → ℕ → Bool
lines_name manifest number = has_number (all_paths manifest.lines) number

-- the number is that of the path, and an edge names it
abbrev pub IsNamedNumber : Manifest → List ℕ → ℕ → Type 0
IsNamedNumber manifest path number = (slice_get manifest.paths number ≡ Some path) × (lines_name manifest number ≡ true)
