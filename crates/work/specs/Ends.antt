-- What ends a build, and what is told of it.
use Rattle.std.specs.Prelude.{◌≡◌, ℕ, suc, List, Option, Some, None}
use Rattle.model.specs.declared.event.Moment.{Moment}
use Rattle.model.specs.declared.fault.SiteFault.TheVariants.{Memory}
use Rattle.model.specs.declared.graph.Edge.{Edge}
use Rattle.model.specs.Graph.{edge_at, first_output}
use Rattle.model.specs.OutOfDate.{IsFirstMissing, IsMissingInput}
use Rattle.model.specs.Schedule.{Step}
use Rattle.model.specs.Records.{Store}
use Rattle.paths.specs.declared.manifest.Manifest.{Manifest}
use Rattle.paths.specs.Told.{graph_of}
use Rattle.graph.specs.declared.fault.GraphFault.{GraphFault}
use Rattle.graph.specs.declared.fault.GraphFault.TheVariants as graph
use Rattle.work.specs.declared.report.Refusal.TheVariants.{MadeTwice, NoDyndepInput, Occupied, File}
use Rattle.work.specs.declared.stop.Stop.{Stop}
use Rattle.work.specs.declared.stop.Stop.TheVariants as stop
use Rattle.work.specs.declared.report.Report.{Report}
use Rattle.work.specs.declared.report.Report.TheVariants.{Refused, Fault}
use Rattle.manifest.specs.declared.fault.ReadError.{ReadError}
use Rattle.manifest.specs.declared.fault.ReadError.TheVariants as read

-- the report of edges that are no graph
abbrev pub ungraphed : GraphFault → Report
ungraphed graph.Memory = Fault Memory
ungraphed (graph.MadeTwice path) = Refused (MadeTwice path)
ungraphed (graph.NoDyndepInput path) = Refused (NoDyndepInput path)
ungraphed (graph.Occupied occupied) = Refused (Occupied occupied)

-- the report of what has stopped a build
abbrev pub report_of : Stop → Report
report_of (stop.Refused refusal) = Refused refusal
report_of (stop.Fault fault) = Fault fault

-- the first output of this edge
abbrev pub first_output_of : Manifest → ℕ → List ℕ
first_output_of manifest e = first_output (edge_at (graph_of manifest).edges (suc e))

-- why the path is named after these steps: it is one of those that are requested, or an input of the edge with this first output
abbrev pub IsMissingFor : List Edge → Store → List Step → List (List ℕ) → List Moment → List ℕ → Option (List ℕ) → Type 0
IsMissingFor edges store before requested files path None = IsFirstMissing edges files requested path
IsMissingFor edges store before requested files path (Some output) =
    (i : ℕ) × (output ≡ first_output (edge_at edges i)) × IsMissingInput edges store before files requested i path

-- the report of a build whose files were not read
abbrev pub unread : ReadError → Report
unread read.Memory = Fault Memory
unread (read.Site fault) = Fault fault
unread (read.Refused fault) = Refused (File fault)
