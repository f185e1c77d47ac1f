-- What building promises of what was read.
use Rattle.std.specs.Prelude.{ℕ, Bool, List}
use Rattle.model.specs.declared.graph.BuildGraph.{BuildGraph}
use Rattle.model.specs.declared.graph.Edge.{Edge}
use Rattle.model.specs.World.{World, IsIdle}
use Rattle.model.specs.Outcome.{Behaviour}
use Rattle.model.specs.Records.{LogFormat, OwnFiles}
use Rattle.theory.specs.Seen.{Looked}
use Rattle.paths.specs.declared.manifest.Manifest.{Manifest}
use Rattle.paths.specs.Told.{graph_of}
use Rattle.builder.specs.declared.asked.Asked.{Asked}
use Rattle.builder.specs.declared.asked.Limits.{Limits}
use Rattle.builder.specs.declared.reading.Reading.{Reading}
use Rattle.work.specs.declared.report.Report.{Report}
use Rattle.builder.specs.Build.{Builds, BuildsFor}
use Rattle.graph.specs.declared.graph.Graph.{Graph}
use Rattle.graph.specs.Told.{declared_by}

-- what was asked for of this graph was built, with some edges at the end
abbrev pub BuildsAsked : Bool → BuildGraph → Asked → World → World → Report → Type 0
BuildsAsked tells graph asked old new report = (grown : List Edge) × BuildsFor tells graph asked grown old new report

-- so it is of a graph in numbers
abbrev pub BuildsGraph : {S : Type 0} → Bool → (S → World) → S → S → Graph → Asked → Report → Type 0
BuildsGraph tells world old new graph asked report = BuildsAsked tells (declared_by graph) asked (world old) (world new) report

-- what was read was built: the graph of its very manifest, and what is asked of it
abbrev pub BuildsReading : Bool → Reading → World → World → Report → Type 0
BuildsReading tells reading old new report = BuildsAsked tells (graph_of reading.manifest) reading.asked old new report

-- Each build of what the manifest declares reports so, where own files lie in this folder: whatever is asked for and whenever, since its
-- edges make no graph; from an entry on, since which there was only looked, and for whatever is behind the records of logs and the
-- reading of other files.
abbrev pub IsReportOfNoGraph : List ℕ → Manifest → Report → Type 0
IsReportOfNoGraph folder manifest report =
    (tells : Bool) (B : Behaviour) (format : LogFormat) (own : OwnFiles) (limits : Limits) (given targets : List (List ℕ)) (entry now : World)
    → IsIdle entry.events → Looked tells entry now
    → Builds tells B format own (graph_of manifest) folder limits given targets (graph_of manifest).edges entry now report
