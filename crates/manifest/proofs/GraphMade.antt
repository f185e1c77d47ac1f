-- The graph that is made of what was kept.
use Rattle.std.proofs.Common.{◌≡◌, ℕ, List, [], ◌∷◌, length, map, refl, sym, ◌∙◌}
use Rattle.std.specs.List.{AllZip, AllByRecursion}
use Rattle.model.specs.declared.graph.Edge.{Edge}
use Rattle.model.specs.declared.graph.Pool.{Pool}
use Rattle.paths.specs.declared.line.Line.{Line}
use Rattle.manifest.specs.declared.kept.Declared.{Declared}
use Rattle.manifest.specs.declared.kept.Named.{Named}
use Rattle.manifest.specs.declared.kept.ReadDefault.{ReadDefault}
use Rattle.manifest.specs.Graphs.{graph_of, builddir_in}
use Rattle.manifest.specs.Held.{IsDefaultOf, IsStateOf, AreLinesFormed, ArePathsFormed}
use Rattle.manifest.specs.InNumbers.{IsWithin, paths_at}
use Rattle.manifest.proofs.BuildReads.{edges_count, lines_count}
use Rattle.manifest.specs.Readings.{Give}
use Rattle.manifest.specs.Readings.Outcome.{Reached}
use Rattle.manifest.specs.States.{State, Default}

pub same_defaults : (kept : List ReadDefault) (said : List Default) → AllZip IsDefaultOf kept said
    → map (λ (default : ReadDefault). default.path) kept ≡ map (λ (default : Default). default.path) said
same_defaults [] [] all = refl
same_defaults [] (s ∷ said) all = absurd all
same_defaults (k ∷ kept) [] all = absurd all
same_defaults (k ∷ kept) (s ∷ said) all = rw (all.0.path, same_defaults kept said all.1) refl

pub same_graph : (state : State) (edges made : List Edge) (pools : List Pool) (defaults : List (List ℕ)) (builddir : List ℕ)
    → made ≡ edges → pools ≡ state.pools → defaults ≡ map (λ (default : Default). default.path) state.defaults → builddir ≡ builddir_in state.past
    → Give (graph_of state edges) (Reached (record { edges = made; pools = pools; defaults = defaults; builddir = builddir }))
same_graph state edges made pools defaults builddir e p d b = rw (e, p, d, b) refl

pub lines_within : (kept : Named) → AreLinesFormed kept → AllByRecursion (IsWithin kept.table) kept.lines
lines_within kept formed = by kept.lines formed
  where
    by : (lines : List Line) → AllByRecursion (λ (line : Line). IsWithin kept.table line × ArePathsFormed (paths_at kept.table line)) lines → AllByRecursion (IsWithin kept.table) lines
    by [] all = tt
    by (line ∷ lines) all = (all.0.0, by lines all.1)

pub as_many : (declared : Declared) (state : State) → IsStateOf declared state → length declared.edges.items ≡ length declared.paths.lines
as_many declared state is = edges_count declared state is ∙ sym (lines_count declared.paths state.builds is.paths)
