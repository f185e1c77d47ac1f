-- The graph in numbers: what each edge names, and who makes it. Edges count from 0 here and in the code, and from 1 in messages, events and definitions.
use Rattle.std.specs.Prelude.{ℕ, ◌<◌, Bool, true, false, List, ◌++◌, All, EachIndex, length, slice_index, get_or, Option}
use Rattle.paths.specs.declared.manifest.Action.{Action}
use Rattle.paths.specs.declared.manifest.Action.TheVariants.{Alias, Command}
use Rattle.paths.specs.Lists.{line_at, line_outputs, line_regular_inputs, line_inputs}
use Rattle.paths.specs.Commands.{no_action}
use Rattle.graph.specs.declared.graph.Graph.{Graph}
use Rattle.graph.specs.Held.{list_at, maker_in}

-- an edge past the last has nothing, and is an alias
pub record Links : Type 0 where
  -- how many edges there are
  pub count : ℕ
  pub outputs : ℕ → List ℕ
  -- explicit and implicit inputs
  pub regular : ℕ → List ℕ
  -- the regular inputs, then the order-only ones
  pub inputs : ℕ → List ℕ
  pub recorded : ℕ → List ℕ
  pub validations : ℕ → List ℕ
  pub phony : ℕ → Bool
  -- the edge that makes a path; None for a source
  pub maker : ℕ → Option ℕ

-- what an edge waits for: its inputs, then its recorded ones
abbrev pub needs_at : Links → ℕ → List ℕ
needs_at links e = links.inputs e ++ links.recorded e

abbrev pub is_alias : Action → Bool
is_alias Alias = true
is_alias (Command command) = false

abbrev pub links_of : Graph → Links
links_of graph = record {
  count = length graph.manifest.lines;
  outputs = λ e. line_outputs (line_at graph.manifest.lines e);
  regular = λ e. line_regular_inputs (line_at graph.manifest.lines e);
  inputs = λ e. line_inputs (line_at graph.manifest.lines e);
  recorded = λ e. list_at graph.recorded e;
  validations = λ e. (line_at graph.manifest.lines e).validations;
  phony = λ e. is_alias (get_or graph.manifest.actions e no_action);
  maker = λ p. maker_in graph.makers p;
}

-- the edges that name a path as one of their inputs or recorded inputs
abbrev pub users_at : Graph → ℕ → List ℕ
users_at graph p = list_at graph.users p

-- what an edge of the graph waits for
abbrev pub needs_of : Graph → ℕ → List ℕ
needs_of graph e = needs_at (links_of graph) e

abbrev pub need_at : Graph → ℕ → ℕ → ℕ
need_at graph e k = slice_index (needs_of graph e) k

-- what edges wait for are paths of the graph
abbrev pub NeedsArePaths : Graph → Type 0
NeedsArePaths graph = (e k : ℕ) → k < length (needs_of graph e) → need_at graph e k < length graph.manifest.paths

-- all are numbers of its paths
abbrev pub AllPaths : Graph → List ℕ → Type 0
AllPaths graph numbers = All (λ p. p < length graph.manifest.paths) numbers

-- all are numbers of its edges
abbrev pub AllEdges : Graph → List ℕ → Type 0
AllEdges graph numbers = All (λ e. e < length graph.manifest.lines) numbers

-- at each place of the list stands one of its edges
abbrev pub EachIsEdge : Graph → List ℕ → Type 0
EachIsEdge graph edges = EachIndex edges (λ k. slice_index edges k < length graph.manifest.lines)
