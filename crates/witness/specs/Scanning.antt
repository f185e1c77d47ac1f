-- Two toy commands: one makes a file, and the other tells in a depfile that it read it, as its input names it. The program's own
-- files in the working folder, and what its logs hold.
use Rattle.std.specs.Prelude.{ℕ, ◌==◌, ◌&&◌, ◌||◌, Bool, true, false, List, [], ◌∷◌, ◌++◌, Option, None, codes}
use Rattle.model.specs.declared.act.Act.{Act}
use Rattle.model.specs.declared.graph.Deps.{Deps}
use Rattle.model.specs.declared.graph.Deps.TheVariants.{Unset, Gcc}
use Rattle.model.specs.declared.graph.Edge.{Edge}
use Rattle.model.specs.declared.record.DepsRecord.{DepsRecord}
use Rattle.model.specs.declared.record.Record.{Record}
use Rattle.model.specs.declared.record.Record.TheVariants.{Begun, Done}
use Rattle.model.specs.Graph.{Addition, has}
use Rattle.model.specs.Outcome.{Behaviour}
use Rattle.model.specs.Records.{Store, OwnFiles, build_log_name, deps_log_name, tick_name, output_name, new_suffix}
use Rattle.model.specs.SingleBuild.{Asked}
use Rattle.log_text.specs.declared.form.Version.TheVariants.{Two}
use Rattle.log_text.specs.Form.{lines_text}
use Rattle.log_text.specs.Text.{header}
use Rattle.log_text.specs.BuildRecord.{forms as record_forms}
use Rattle.log_text.specs.DepsRecordLine.{forms as deps_forms}
use Rattle.sim.specs.Toy.{toy_outcome}

-- ---- the graph

-- the build file that declares it
abbrev pub file_text : List ℕ
file_text =
    codes "rule cat\n  command = cat $out $in\nrule scan\n  command = scan $out $out.d $in\n  depfile = $out.d\n  deps = gcc\nbuild h: cat g\nbuild b: scan a || h\n"

abbrev pub cat : Act
cat = record { command = codes "cat h g"; depfile = []; response_path = []; response_content = [] }

abbrev pub scan : Act
scan = record { command = codes "scan b b.d a"; depfile = codes "b.d"; response_path = []; response_content = [] }

-- an edge with one output, one explicit input and these order-only inputs
abbrev pub edge_with : List ℕ → List ℕ → List (List ℕ) → Act → Deps → Edge
edge_with output input order_only act deps = record {
  explicit_outputs = output ∷ [];
  implicit_outputs = [];
  explicit_inputs = input ∷ [];
  implicit_inputs = [];
  order_only_inputs = order_only;
  validations = [];
  act = act;
  description = [];
  deps = deps;
  restat = false;
  pool = None;
  dyndep = None;
  phony = false;
}

abbrev pub edges : List Edge
edges = edge_with (codes "h") (codes "g") [] cat Unset ∷ edge_with (codes "b") (codes "a") (codes "h" ∷ []) scan Gcc ∷ []

-- all of it is built; one command at a time, and nothing is started after a failure
abbrev pub asked : Asked
asked = record {
  graph = record { edges = edges; pools = []; defaults = []; builddir = [] };
  declared = edges;
  targets = [];
  folder = [];
  jobs = 1;
  keep = 1;
}

-- the toy commands, with these readings of depfiles and of dyndep files
abbrev pub toys : (List ℕ → Option (List (List ℕ))) → (List ℕ → Option (List Addition)) → Behaviour
toys depfile dyndep = record { outcome = toy_outcome; depfile = depfile; dyndep = dyndep }

-- what `a` holds where it names this file
abbrev pub naming : List ℕ → List ℕ
naming name = codes "use " ++ name

-- what the second command then tells
abbrev pub telling : List ℕ → List ℕ
telling name = codes "b: " ++ name ++ codes "\n"

-- ---- the program's own files, in the working folder

abbrev pub begins_with : List ℕ → List ℕ → Bool
begins_with [] p = true
begins_with (c ∷ cs) [] = false
begins_with (c ∷ cs) (d ∷ ds) = (c == d) && begins_with cs ds

abbrev pub own_paths : List (List ℕ)
own_paths = build_log_name ∷ deps_log_name ∷ tick_name ∷ (build_log_name ++ new_suffix) ∷ (deps_log_name ++ new_suffix) ∷ []

-- the set has these, the depfile, and the empty text, as there is no response file
abbrev pub own : OwnFiles
own = record {
  build_log = build_log_name;
  deps_log = deps_log_name;
  files = λ p. has own_paths p || begins_with output_name p;
  set = λ p. has ([] ∷ codes "b.d" ∷ own_paths) p || begins_with output_name p;
}

-- ---- logs

abbrev pub begun : List ℕ → Record
begun output = Begun (output ∷ [])

abbrev pub copied : ℕ → Record
copied start = Done (codes "h" ∷ []) start cat

abbrev pub scanned : ℕ → Record
scanned start = Done (codes "b" ∷ []) start scan

abbrev pub told : ℕ → DepsRecord
told start = record { outputs = codes "b" ∷ []; start = start; paths = codes "h" ∷ [] }

-- the whole log of these records, as it is defined
abbrev pub log_text : List Record → List ℕ
log_text records = header (record_forms Two) ++ lines_text (record_forms Two) records

abbrev pub deps_text : List DepsRecord → List ℕ
deps_text records = header (deps_forms Two) ++ lines_text (deps_forms Two) records

abbrev pub store_of : List Record → List DepsRecord → Store
store_of records deps = record { records = records; deps = deps }
