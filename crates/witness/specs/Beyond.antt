-- One round beyond the clean build.
use Rattle.std.specs.Prelude.{◌≡◌, ℕ, true, List, [], Some}
use Rattle.model.specs.declared.graph.Edge.{Edge}
use Rattle.model.specs.World.{View}
use Rattle.model.specs.Graph.{has, edge_at, maker, IsCommand}
use Rattle.model.specs.Outcome.{Behaviour, ends_well, reports_of}
use Rattle.model.specs.Clean.{round, sources_of, clean_build}
use Rattle.model.specs.Reading.{IsAbove, IsCycle, needs}
use Rattle.model.specs.Premises.{AgreesOnReading, HasOneOutcome}

-- nothing was recorded
abbrev pub none_recorded : ℕ → List (List ℕ)
none_recorded i = []

-- no edge is above itself
abbrev pub IsAcyclic : List Edge → Type 0
IsAcyclic edges = (i : ℕ) → IsCycle edges none_recorded i → ⊥

-- what the command of edge i reports, in a view that holds the files on its reading set, is made by no command or by one above it
abbrev pub ReportsAbove : Behaviour → List Edge → View → ℕ → Type 0
ReportsAbove B edges files i =
    (view : View) → AgreesOnReading edges files i view → ends_well B (edge_at edges i).act view ≡ true
    → (p : List ℕ) (j : ℕ) → has (reports_of B (edge_at edges i).act view) p ≡ true → maker edges p ≡ Some j → IsCommand edges j
    → IsAbove (needs edges none_recorded) (maker edges) j i

-- On an acyclic graph, where the outcomes of commands depend on their reading sets and on reports from above, one round
-- beyond the clean build changes nothing.
abbrev pub RoundBeyondChangesNothing : Type 0
RoundBeyondChangesNothing =
    (B : Behaviour) (edges : List Edge) (files : View) → IsAcyclic edges
    → ((i : ℕ) → IsCommand edges i → HasOneOutcome B edges (clean_build B edges files) i)
    → ((i : ℕ) → IsCommand edges i → ReportsAbove B edges (clean_build B edges files) i)
    → (p : List ℕ) → round B edges (sources_of edges files) (clean_build B edges files) p ≡ clean_build B edges files p
