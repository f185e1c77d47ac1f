-- Builds with a dyndep file: the lists of steps that are lawful, and the answers; and the graphs in which an output that only a
-- dyndep file names is read too early.
use Rattle.std.specs.Prelude.{ℕ, true, false, if◌then◌else◌, List, [], ◌∷◌, ◌++◌, Option, Some, None, bytes_eq, codes}
use Rattle.model.specs.declared.act.Act.{Act}
use Rattle.model.specs.declared.event.Event.TheVariants.{Start, Finish}
use Rattle.model.specs.declared.event.Moment.{Moment}
use Rattle.model.specs.declared.event.Moment.TheVariants.{Wrote, Happened}
use Rattle.model.specs.declared.event.Writer.TheVariants.{Program, Command}
use Rattle.model.specs.declared.graph.Deps.TheVariants.{Unset}
use Rattle.model.specs.declared.graph.Edge.{Edge}
use Rattle.model.specs.World.{World, View}
use Rattle.model.specs.Graph.{Addition, grown_edge}
use Rattle.model.specs.Outcome.{Behaviour}
use Rattle.model.specs.Records.{OwnFiles}
use Rattle.model.specs.Schedule.{Step, Judged, Started, Ended}
use Rattle.model.specs.Phases.{IsLawfulBuild, IsLawfulPhase, steps_of}
use Rattle.model.specs.Premises.{IsReported, DyndepOutputsAreReadBelow}
use Rattle.model.specs.SingleBuild.{Asked, Answer, Success, Cyclic, NoDyndepInput, Refused, IsAnswer, task_of}
use Rattle.witness.specs.Small.{copies, no_records, world_with}

-- ---- the graph

abbrev pub runs_with : List ℕ → Act
runs_with command = record { command = command; depfile = []; response_path = []; response_content = [] }

-- an edge with one output, these inputs and order-only inputs, and the dyndep file that it names
abbrev pub edge_of : List ℕ → List (List ℕ) → List (List ℕ) → Option (List ℕ) → Edge
edge_of out ins order_only dyndep = record {
  explicit_outputs = out ∷ [];
  implicit_outputs = [];
  explicit_inputs = ins;
  implicit_inputs = [];
  order_only_inputs = order_only;
  validations = [];
  act = runs_with out;
  description = [];
  deps = Unset;
  restat = false;
  pool = None;
  dyndep = dyndep;
  phony = false;
}

-- `build dd: cat dd.src`
abbrev pub makes_dd : Edge
makes_dd = edge_of (codes "dd") (codes "dd.src" ∷ []) [] None

-- `build o: two a || dd` with `dyndep = dd`
abbrev pub makes_o : Edge
makes_o = edge_of (codes "o") (codes "a" ∷ []) (codes "dd" ∷ []) (Some (codes "dd"))

-- `build h: cat s`
abbrev pub makes_h : List ℕ → Edge
makes_h s = edge_of (codes "h") (s ∷ []) [] None

-- what the dyndep file says: `build o | x: dyndep | h`
abbrev pub says : Addition
says = record { output = codes "o"; outputs = codes "x" ∷ []; inputs = codes "h" ∷ []; restat = false }

abbrev pub declared : List ℕ → List Edge
declared s = makes_dd ∷ makes_o ∷ makes_h s ∷ []

-- once the file is loaded
abbrev pub grown : List ℕ → List Edge
grown s = makes_dd ∷ grown_edge makes_o says ∷ makes_h s ∷ []

-- the first of these edges alone is not there, and nothing makes `dd`
abbrev pub without_dd : List Edge
without_dd = makes_o ∷ makes_h (codes "a") ∷ []

-- the file is named, and is no input
abbrev pub not_an_input : List Edge
not_an_input = makes_dd ∷ edge_of (codes "o") (codes "a" ∷ []) [] (Some (codes "dd")) ∷ makes_h (codes "a") ∷ []

-- `o` is asked for, with four commands at once; `edges` are those of the end
abbrev pub asked_of : List Edge → List Edge → Asked
asked_of edges as_declared = record {
  graph = record { edges = edges; pools = []; defaults = []; builddir = [] };
  declared = as_declared;
  targets = codes "o" ∷ [];
  folder = [];
  jobs = 4;
  keep = 1;
}

-- the text of the dyndep file; any other is refused
abbrev pub text : List ℕ
text = codes "build o | x: dyndep | h"

abbrev pub reads_dyndep : List ℕ → Option (List Addition)
reads_dyndep content = if bytes_eq content text then Some (says ∷ []) else None

abbrev pub behaviour : Behaviour
behaviour = record { outcome = copies.outcome; depfile = copies.depfile; dyndep = reads_dyndep }

-- what the loaded files held
abbrev pub texts : View
texts = λ p. if bytes_eq (codes "dd") p then Some text else None

-- ---- what is done

-- before the load, and after it
abbrev pub first_phase : List Step
first_phase = Judged 1 true ∷ Started 1 ∷ Ended 1 true ∷ []

abbrev pub last_phase : List Step
last_phase = Judged 3 true ∷ Started 3 ∷ Ended 3 true ∷ Judged 2 true ∷ Started 2 ∷ Ended 2 true ∷ []

-- where all is up to date
abbrev pub clean_first : List Step
clean_first = Judged 1 false ∷ []

abbrev pub clean_last : List Step
clean_last = Judged 3 false ∷ Judged 2 false ∷ []

abbrev pub sources : List Moment
sources = Wrote Program (codes "a") (Some (codes "x")) 1 ∷ Wrote Program (codes "dd.src") (Some text) 2 ∷ []

abbrev pub command_ran : ℕ → List ℕ → ℕ → List Moment
command_ran i out stamp =
    Happened (Start i (runs_with out) stamp) ∷ Wrote (Command i) out (Some text) (stamp) ∷ Happened (Finish i true) ∷ []

abbrev pub at_entry : World
at_entry = world_with sources [] 0

-- only `dd` was made
abbrev pub after_dd : World
after_dd = world_with (sources ++ command_ran 1 (codes "dd") 3) (Start 1 (runs_with (codes "dd")) 3 ∷ Finish 1 true ∷ []) 3

abbrev pub after_all : World
after_all =
    world_with (sources ++ command_ran 1 (codes "dd") 3 ++ command_ran 3 (codes "h") 4 ++ command_ran 2 (codes "o") 5)
    (
    Start 1 (runs_with (codes "dd")) 3 ∷ Finish 1 true ∷ Start 3 (runs_with (codes "h")) 4 ∷ Finish 3 true
    ∷ Start 2 (runs_with (codes "o")) 5 ∷ Finish 2 true ∷ []
    ) 5

-- these steps of a build that found no records are lawful, and this is an answer to them
pub record IsLawfulWith (asked : Asked) (steps : List Step) (old new : World) (answer : Answer) : Type 0 where
  pub build : IsLawfulBuild behaviour.dyndep texts asked.declared (task_of asked no_records) no_records steps
  pub answers : (own : OwnFiles) → IsAnswer true behaviour own texts asked no_records build.earlier (steps_of build.earlier ++ build.last) steps old new answer

-- ---- outputs that are read too early

abbrev pub nothing_recorded : ℕ → List (List ℕ)
nothing_recorded i = []

-- `build z: cat x || dd`, and `build o: two a || dd` with `dyndep = dd`, which says that `o` makes `x` too
abbrev pub reads_x : List Edge
reads_x = edge_of (codes "z") (codes "x" ∷ []) (codes "dd" ∷ []) None ∷ makes_o ∷ []

abbrev pub reads_x_grown : List Edge
reads_x_grown = edge_of (codes "z") (codes "x" ∷ []) (codes "dd" ∷ []) None ∷ grown_edge makes_o says ∷ []

-- `build z: scan s || x`, with the same other edge
abbrev pub waits_for_x : List Edge
waits_for_x = edge_of (codes "z") (codes "s" ∷ []) (codes "x" ∷ []) None ∷ makes_o ∷ []

abbrev pub waits_for_x_grown : List Edge
waits_for_x_grown = edge_of (codes "z") (codes "s" ∷ []) (codes "x" ∷ []) None ∷ grown_edge makes_o says ∷ []

-- `build i: scan || q`, `build r: cat rs`, and `build o: two r || dd` with `dyndep = dd`, which says that `o` makes `q` too
abbrev pub reads_r : Edge
reads_r = edge_of (codes "o") (codes "r" ∷ []) (codes "dd" ∷ []) (Some (codes "dd"))

abbrev pub waits_for_q : List Edge
waits_for_q = edge_of (codes "i") [] (codes "q" ∷ []) None ∷ edge_of (codes "r") (codes "rs" ∷ []) [] None ∷ reads_r ∷ []

abbrev pub says_q : Addition
says_q = record { output = codes "o"; outputs = codes "q" ∷ []; inputs = []; restat = false }

abbrev pub waits_for_q_grown : List Edge
waits_for_q_grown = edge_of (codes "i") [] (codes "q" ∷ []) None ∷ edge_of (codes "r") (codes "rs" ∷ []) [] None ∷ grown_edge reads_r says_q ∷ []

-- What the definitions say of builds with a dyndep file.
pub record DyndepRows : Type 0 where
  -- the file is made and loaded, and then the input that it adds is made before the edge is judged
  pub success : IsLawfulWith (asked_of (grown (codes "a")) (declared (codes "a"))) (first_phase ++ last_phase) at_entry after_all (Success 3)
  -- where all is up to date, the file is loaded before anything is started, and nothing is
  pub again : IsLawfulWith (asked_of (grown (codes "a")) (declared (codes "a"))) (clean_first ++ clean_last) at_entry at_entry (Success 0)
  -- the edge may not be judged before that, nor before the load
  pub before_the_input : IsLawfulPhase (task_of (asked_of (grown (codes "a")) (declared (codes "a"))) no_records) first_phase (Judged 2 true ∷ []) → ⊥
  pub before_the_load : IsLawfulPhase (task_of (asked_of (declared (codes "a")) (declared (codes "a"))) no_records) first_phase (Judged 2 true ∷ []) → ⊥
  -- what the file adds closes a cycle
  pub cycle : IsLawfulWith (asked_of (declared (codes "o")) (declared (codes "o"))) first_phase at_entry after_dd (Cyclic (codes "o" ∷ codes "h" ∷ codes "o" ∷ []))
  -- the file cannot be read, or does not fit the edges
  pub refused : IsLawfulWith (asked_of (declared (codes "a")) (declared (codes "a"))) first_phase at_entry after_dd Refused
  -- the file is absent, and no edge makes it
  pub absent : IsLawfulWith (asked_of without_dd without_dd) [] at_entry at_entry Refused
  -- an edge names a file that is none of its inputs
  pub no_input : IsLawfulWith (asked_of not_an_input not_an_input) [] at_entry at_entry (NoDyndepInput (codes "dd"))
  -- an input that only a dyndep file makes is read by an edge that waits for the file and is not below it
  pub read_beside : (B : Behaviour) (steps : List Step) (old new : List Moment) → DyndepOutputsAreReadBelow B reads_x reads_x_grown nothing_recorded steps old new → ⊥
  -- such a path is reported, by an edge that waits for it
  pub reported_beside : (B : Behaviour) (steps : List Step) (old new : List Moment) → IsReported B waits_for_x_grown steps old new 1 (codes "x")
      → DyndepOutputsAreReadBelow B waits_for_x waits_for_x_grown nothing_recorded steps old new → ⊥
  -- the path that is reported stands above the edge only through such a path
  pub reported_through : (B : Behaviour) (steps : List Step) (old new : List Moment) → IsReported B waits_for_q_grown steps old new 1 (codes "r")
      → DyndepOutputsAreReadBelow B waits_for_q waits_for_q_grown nothing_recorded steps old new → ⊥
