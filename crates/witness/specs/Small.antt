-- A small site: one command that copies `a` to `b`, and logs whose texts are words.
use Rattle.std.specs.Prelude.{ℕ, true, false, if◌then◌else◌, List, [], ◌∷◌, Option, Some, None, bytes_eq, codes}
use Rattle.model.specs.declared.act.Act.{Act}
use Rattle.model.specs.declared.event.Event.{Event}
use Rattle.model.specs.declared.event.Moment.{Moment}
use Rattle.model.specs.declared.graph.Deps.TheVariants.{Unset}
use Rattle.model.specs.declared.graph.Edge.{Edge}
use Rattle.model.specs.declared.outcome.Outcome.{Outcome}
use Rattle.model.specs.declared.record.Record.{Record}
use Rattle.model.specs.declared.record.Record.TheVariants.{Begun, Done}
use Rattle.model.specs.declared.record.DepsRecord.{DepsRecord}
use Rattle.model.specs.World.{World}
use Rattle.model.specs.Outcome.{Behaviour}
use Rattle.model.specs.Records.{Store, LogFormat}
use Rattle.model.specs.Schedule.{Task}
use Rattle.model.specs.SingleBuild.{Asked, task_of}

-- ---- the command

-- an act with a command, a depfile and a response file, where these are not empty
abbrev pub act_with : List ℕ → List ℕ → List ℕ → Act
act_with command depfile response = record { command = command; depfile = depfile; response_path = response; response_content = codes "x" }

abbrev pub copy : Act
copy = record { command = codes "copy"; depfile = []; response_path = []; response_content = [] }

-- `build b: copy a`, with this act
abbrev pub edge_with : Act → Edge
edge_with act = record {
  explicit_outputs = codes "b" ∷ [];
  implicit_outputs = [];
  explicit_inputs = codes "a" ∷ [];
  implicit_inputs = [];
  order_only_inputs = [];
  validations = [];
  act = act;
  description = [];
  deps = Unset;
  restat = false;
  pool = None;
  dyndep = None;
  phony = false;
}

abbrev pub edges : List Edge
edges = edge_with copy ∷ []

-- the graph with this edge; one command at a time, and nothing is started after a failure
abbrev pub asked : Asked
asked = record {
  graph = record { edges = edges; pools = []; defaults = []; builddir = [] };
  declared = edges;
  targets = [];
  folder = [];
  jobs = 1;
  keep = 1;
}

-- it fails where there is no `a`, and where `a` holds `no`
abbrev pub copied : Option (List ℕ) → Outcome
copied None = record { ok = false; writes = [] }
copied (Some content) =
    if bytes_eq content (codes "no") then record { ok = false; writes = [] }
    else record { ok = true; writes = record { path = codes "b"; content = Some content; only_changes = false } ∷ [] }

-- every command does so; no depfile lists anything, and no dyndep file can be read
abbrev pub copies : Behaviour
copies = record { outcome = λ act view. copied (view (codes "a")); depfile = λ content. Some []; dyndep = λ content. None }

-- ---- logs

abbrev pub begun : Record
begun = Begun (codes "b" ∷ [])

abbrev pub done : ℕ → Record
done start = Done (codes "b" ∷ []) start copy

-- what a word of the build log tells
abbrev pub told : List ℕ → Option (List Record)
told word =
    if bytes_eq word (codes "begun") then Some (begun ∷ [])
    else (if bytes_eq word (codes "done") then Some (done 9 ∷ []) else None)

-- `future` is a record of a start under the stamp 10
abbrev pub told_deps : List ℕ → Option (List DepsRecord)
told_deps word = if bytes_eq word (codes "future") then Some (record { outputs = codes "b" ∷ []; start = 10; paths = codes "a" ∷ [] } ∷ []) else None

abbrev pub words : LogFormat
words = record { records = told; deps = told_deps }

abbrev pub no_records : Store
no_records = record { records = []; deps = [] }

-- the output has a record of a run that started under this stamp
abbrev pub done_under : ℕ → Store
done_under start = record { records = done start ∷ []; deps = [] }

-- ---- worlds

-- a site on which this has happened, with no refused call
abbrev pub world_with : List Moment → List Event → ℕ → World
world_with history events ticked = record { history = history; events = events; earlier = []; ticked = ticked; failures = 0; failures_at_start = 0; wait_refused = None; stopped = false }

abbrev pub task : Task
task = task_of asked no_records
