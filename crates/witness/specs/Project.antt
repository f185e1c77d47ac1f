-- A project of seven edges, what its commands do, the program's own files in the working folder, and logs whose lines are letters.
use Rattle.std.specs.Prelude.{ℕ, ◌-◌, ◌==◌, ◌&&◌, ◌||◌, Bool, true, false, if◌then◌else◌, List, [], ◌∷◌, ◌++◌, get_or, Option, Some, None, bytes_eq, codes}
use Rattle.model.specs.declared.act.Act.{Act}
use Rattle.model.specs.declared.graph.Deps.TheVariants.{Unset}
use Rattle.model.specs.declared.graph.Edge.{Edge}
use Rattle.model.specs.declared.outcome.Outcome.{Outcome}
use Rattle.model.specs.declared.record.Record.{Record}
use Rattle.model.specs.declared.record.Record.TheVariants.{Begun, Done}
use Rattle.model.specs.World.{View}
use Rattle.model.specs.Graph.{Addition, grown_edge, has}
use Rattle.model.specs.Outcome.{Behaviour}
use Rattle.model.specs.Records.{Store, LogFormat, OwnFiles, build_log_name, deps_log_name, tick_name, output_name, new_suffix}
use Rattle.model.specs.SingleBuild.{Asked}

-- ---- the graph

abbrev pub runs_with : List ℕ → Act
runs_with command = record { command = command; depfile = []; response_path = []; response_content = [] }

-- an edge with one output, one explicit input, these order-only inputs and this dyndep file
abbrev pub edge_of : List ℕ → List ℕ → List (List ℕ) → Option (List ℕ) → Act → Edge
edge_of output input order_only dyndep act = record {
  explicit_outputs = output ∷ [];
  implicit_outputs = [];
  explicit_inputs = input ∷ [];
  implicit_inputs = [];
  order_only_inputs = order_only;
  validations = [];
  act = act;
  description = [];
  deps = Unset;
  restat = false;
  pool = None;
  dyndep = dyndep;
  phony = false;
}

-- `build dd: cat d.in`
abbrev pub makes_dd : Edge
makes_dd = edge_of (codes "dd") (codes "d.in") [] None (runs_with (codes "cat dd d.in"))

-- `build b: cat a`
abbrev pub makes_b : Edge
makes_b = edge_of (codes "b") (codes "a") [] None (runs_with (codes "cat b a"))

-- `build h: head k`, with `restat = 1`
abbrev pub makes_h : Edge
makes_h = record (edge_of (codes "h") (codes "k") [] None (runs_with (codes "head h k"))) { restat = true }

-- `build p: phony h`
abbrev pub stands_for_h : Edge
stands_for_h = record (edge_of (codes "p") (codes "h") [] None (runs_with [])) { phony = true }

-- `build q: cat p`, whose command reads `h`
abbrev pub makes_q : Edge
makes_q = edge_of (codes "q") (codes "p") [] None (runs_with (codes "cat q h"))

-- `build o: two u || dd`, with `dyndep = dd` and a response file
abbrev pub makes_o : Edge
makes_o =
    edge_of (codes "o") (codes "u") (codes "dd" ∷ []) (Some (codes "dd"))
    (record { command = codes "two o x u"; depfile = []; response_path = codes "o.rsp"; response_content = codes "u" })

-- `build z: cat o || dd`, with `dyndep = dd`, whose command reads `x`
abbrev pub makes_z : Edge
makes_z = edge_of (codes "z") (codes "o") (codes "dd" ∷ []) (Some (codes "dd")) (runs_with (codes "cat z x"))

abbrev pub declared : List Edge
declared = makes_dd ∷ makes_b ∷ makes_h ∷ stands_for_h ∷ makes_q ∷ makes_o ∷ makes_z ∷ []

-- the dyndep file says that `o` makes `x` too, and that `z` reads it
abbrev pub dyndep_text : List ℕ
dyndep_text = codes "ninja_dyndep_version = 1\nbuild o | x: dyndep\nbuild z: dyndep | x\n"

abbrev pub makes_x : Addition
makes_x = record { output = codes "o"; outputs = codes "x" ∷ []; inputs = []; restat = false }

abbrev pub reads_x : Addition
reads_x = record { output = codes "z"; outputs = []; inputs = codes "x" ∷ []; restat = false }

-- the edges once it is loaded
abbrev pub edges : List Edge
edges = makes_dd ∷ makes_b ∷ makes_h ∷ stands_for_h ∷ makes_q ∷ grown_edge makes_o makes_x ∷ grown_edge makes_z reads_x ∷ []

-- all of it is built, two commands at once
abbrev pub asked : Asked
asked = record {
  graph = record { edges = edges; pools = []; defaults = []; builddir = [] };
  declared = declared;
  targets = [];
  folder = [];
  jobs = 2;
  keep = 1;
}

-- ---- what the commands do

abbrev pub fails : Outcome
fails = record { ok = false; writes = [] }

-- the command leaves this at the path, and fails where there is nothing to leave
abbrev pub leaves : List ℕ → Option (List ℕ) → Outcome
leaves path None = fails
leaves path (Some content) = record { ok = true; writes = record { path = path; content = Some content; only_changes = false } ∷ [] }

-- it does not touch a file that holds this already
abbrev pub keeps : List ℕ → Option (List ℕ) → Outcome
keeps path None = fails
keeps path (Some content) = record { ok = true; writes = record { path = path; content = Some content; only_changes = true } ∷ [] }

-- it leaves the one as it is at the first path, and with an `!` at the second
abbrev pub leaves_both : List ℕ → List ℕ → Option (List ℕ) → Outcome
leaves_both path other None = fails
leaves_both path other (Some content) = record {
  ok = true;
  writes = record { path = path; content = Some content; only_changes = false } ∷ record { path = other; content = Some (content ++ codes "!"); only_changes = false } ∷ [];
}

abbrev pub head_of : Option (List ℕ) → Option (List ℕ)
head_of None = None
head_of (Some []) = Some []
head_of (Some (c ∷ cs)) = Some (c ∷ [])

abbrev pub done_by : List ℕ → View → Outcome
done_by command view = elim (bytes_eq command (codes "cat dd d.in")) [
  | true ↦ leaves (codes "dd") (view (codes "d.in"))
  | false ↦ elim (bytes_eq command (codes "cat b a")) [
    | true ↦ leaves (codes "b") (view (codes "a"))
    | false ↦ elim (bytes_eq command (codes "head h k")) [
      | true ↦ keeps (codes "h") (head_of (view (codes "k")))
      | false ↦ elim (bytes_eq command (codes "cat q h")) [
        | true ↦ leaves (codes "q") (view (codes "h"))
        | false ↦ elim (bytes_eq command (codes "two o x u")) [
          | true ↦ leaves_both (codes "o") (codes "x") (view (codes "u"))
          | false ↦ elim (bytes_eq command (codes "cat z x")) [
            | true ↦ leaves (codes "z") (view (codes "x"))
            | false ↦ fails
          ]
        ]
      ]
    ]
  ]
]

abbrev pub reads_dyndep : List ℕ → Option (List Addition)
reads_dyndep content = if bytes_eq content dyndep_text then Some (makes_x ∷ reads_x ∷ []) else None

-- no command names a depfile
abbrev pub commands : Behaviour
commands = record { outcome = λ act view. done_by act.command view; depfile = λ content. Some []; dyndep = reads_dyndep }

-- what the loaded dyndep file held
abbrev pub texts : View
texts = λ p. if bytes_eq (codes "dd") p then Some dyndep_text else None

-- ---- files that are not the graph's

-- somebody edits `a` in the first build, and `t` is a scratch file
abbrev pub edited_or_scratch : List (List ℕ)
edited_or_scratch = codes "a" ∷ codes "t" ∷ []

abbrev pub scratch : List (List ℕ)
scratch = codes "t" ∷ []

abbrev pub begins_with : List ℕ → List ℕ → Bool
begins_with [] p = true
begins_with (c ∷ cs) [] = false
begins_with (c ∷ cs) (d ∷ ds) = (c == d) && begins_with cs ds

abbrev pub own_paths : List (List ℕ)
own_paths = build_log_name ∷ deps_log_name ∷ tick_name ∷ (build_log_name ++ new_suffix) ∷ (deps_log_name ++ new_suffix) ∷ []

-- the set has these, the response file, and the empty text, as there is no depfile
abbrev pub own : OwnFiles
own = record {
  build_log = build_log_name;
  deps_log = deps_log_name;
  files = λ p. has own_paths p || begins_with output_name p;
  set = λ p. has ([] ∷ codes "o.rsp" ∷ own_paths) p || begins_with output_name p;
}

-- ---- the log

abbrev pub done : Edge → List (List ℕ) → ℕ → Record
done e outputs start = Done outputs start e.act

-- what the first build records, and what the second does
abbrev pub first_records : List Record
first_records =
    Begun (codes "dd" ∷ []) ∷ Begun (codes "b" ∷ []) ∷ done makes_dd (codes "dd" ∷ []) 2 ∷ Begun (codes "h" ∷ []) ∷ done makes_b (codes "b" ∷ []) 3
    ∷ Begun (codes "o" ∷ codes "x" ∷ []) ∷ done makes_h (codes "h" ∷ []) 5 ∷ Begun (codes "q" ∷ []) ∷ done makes_o (codes "o" ∷ codes "x" ∷ []) 6
    ∷ Begun (codes "z" ∷ []) ∷ done makes_q (codes "q" ∷ []) 7 ∷ done makes_z (codes "z" ∷ []) 8 ∷ []

abbrev pub second_records : List Record
second_records = Begun (codes "b" ∷ []) ∷ Begun (codes "h" ∷ []) ∷ done makes_h (codes "h" ∷ []) 12 ∷ done makes_b (codes "b" ∷ []) 11 ∷ []

abbrev pub all_records : List Record
all_records = first_records ++ second_records

-- a line of the log is a letter, which stands for one of these; a line that is cut tells nothing
abbrev pub lines_from : Option ℕ → List ℕ → List Record
lines_from letter [] = []
lines_from None (c ∷ cs) = lines_from (Some c) cs
lines_from (Some l) (c ∷ cs) = get_or all_records (l - 97) (Begun []) ∷ lines_from None cs

abbrev pub letters : LogFormat
letters = record { records = λ text. Some (lines_from None text); deps = λ text. Some [] }

abbrev pub store_of : List Record → Store
store_of records = record { records = records; deps = [] }
