-- Which edges are out of date in a build, and which are due before it starts.
use Rattle.std.specs.Prelude.{◌≡◌, ◌⊎◌, ◌↔◌, ℕ, ◌<◌, ◌&&◌, not, Bool, true, false, List, [], ◌∷◌, ◌++◌, map, Option, Some, None, is_some}
use Rattle.std.specs.List.{AllByRecursion}
use Rattle.model.specs.declared.event.Moment.{Moment}
use Rattle.model.specs.declared.graph.Edge.{Edge}
use Rattle.model.specs.World.{file_at, stamp_of, view_of}
use Rattle.model.specs.Graph.{has, has_number, edge_at, maker, outputs, regular_inputs, inputs, IsCommand}
use Rattle.model.specs.Reading.{IsRead, IsInCone}
use Rattle.model.specs.Schedule.{Step, judged_in, out_of_date_in}
use Rattle.model.specs.Records.{Store, Told, in_force, deps_in_force, recorded_inputs}
use Rattle.model.specs.Judgement.{OutputFacts, InputFacts, Facts, is_same_number, reason_of}

-- ---- the facts of an edge

abbrev pub deps_start : Option Told → Option ℕ
deps_start None = None
deps_start (Some deps) = Some deps.start

-- an output, as these files and records have it
abbrev pub output_facts : Store → List Moment → List ℕ → OutputFacts
output_facts store files o =
    record { stamp = stamp_of (file_at files o); made = in_force store.records o; deps_start = deps_start (deps_in_force store.deps o) }

-- the path's maker is one of these, unless that has `restat` and left the path's stamp as it was (manual: `restat`)
abbrev pub is_made_anew : List Edge → List ℕ → Bool → Option ℕ → Bool
is_made_anew edges ran same None = false
is_made_anew edges ran same (Some j) = has_number ran j && not ((edge_at edges j).restat && same)

-- a path that is read, as the files are now; whether its stamp is the old one is seen by the files at the entry
abbrev pub input_facts : List Edge → List ℕ → List Moment → List Moment → List ℕ → InputFacts
input_facts edges ran old new p = record {
  stamp = stamp_of (file_at new p);
  changed = is_made_anew edges ran (is_same_number (stamp_of (file_at old p)) (stamp_of (file_at new p))) (maker edges p);
}

-- what the judgement of edge i reads: its outputs and depfile as at the entry, which nobody has touched before it is judged,
-- and the listed paths as they are now; `ran` are the edges whose command ended well in this build
abbrev pub facts_of : List Edge → Store → List ℕ → List Moment → List Moment → ℕ → List (List ℕ) → Facts
facts_of edges store ran old new i read = record {
  act = (edge_at edges i).act;
  restat = (edge_at edges i).restat;
  deps = (edge_at edges i).deps;
  depfile = is_some (file_at old (edge_at edges i).act.depfile);
  outputs = map (output_facts store old) (outputs (edge_at edges i));
  inputs = map (input_facts edges ran old new) read;
}

-- the path is in the reading set of edge i, or a recorded input in use
abbrev pub Counted : List Edge → Store → List Moment → ℕ → List ℕ → Type 0
Counted edges store files i p = IsRead edges (view_of files) i p ⊎ (has (recorded_inputs store edges i) p ≡ true)

-- no path that counts for edge i is one that others may write meanwhile
abbrev pub ReadsNoFree : (List ℕ → Bool) → List Edge → Store → List Moment → ℕ → Type 0
ReadsNoFree free edges store files i = (p : List ℕ) → Counted edges store files i p → free p ≡ false

-- the list has just the paths that count for edge i
abbrev pub ListsCounted : List Edge → Store → List Moment → ℕ → List (List ℕ) → Type 0
ListsCounted edges store files i read = (p : List ℕ) → (has read p ≡ true) ↔ Counted edges store files i p

-- the verdict on edge i is right: out of date exactly where a reason holds
pub record IsVerdict (edges : List Edge) (store : Store) (ran : List ℕ) (old new : List Moment) (i : ℕ) (out_of_date : Bool) : Type 0 where
  pub read : List (List ℕ)
  pub counted : ListsCounted edges store new i read
  pub verdict : out_of_date ≡ is_some (reason_of (facts_of edges store ran old new i read))

-- edge i is out of date (this project's own)
abbrev pub IsOutOfDate : List Edge → Store → List ℕ → List Moment → List Moment → ℕ → Type 0
IsOutOfDate edges store ran old new i = IsVerdict edges store ran old new i true

-- what the judgement reads of what the edge makes, as at the entry: its outputs with their records, and its depfile
abbrev pub made_facts : Edge → Store → List Moment → Facts
made_facts e store old =
    record { act = e.act; restat = e.restat; deps = e.deps; depfile = is_some (file_at old e.act.depfile); outputs = map (output_facts store old) (outputs e); inputs = [] }

-- edge i is out of date by what it makes, whatever it reads: an output is absent, or has no record or one of another act, or the command
-- leaves a depfile, and not all is known of what it told
abbrev pub IsStaleByOutputs : List Edge → Store → List Moment → ℕ → Type 0
IsStaleByOutputs edges store old i = is_some (reason_of (made_facts (edge_at edges i) store old)) ≡ true

-- ---- before a start

-- Edge i is due: it was judged out of date in these steps; or it was not judged, and is out of date before anything ran, or reads
-- what a due edge makes. A phony is due where it has no inputs and its file is absent, or where a regular input is an absent
-- source or made by a due edge (this project's own).
pub data IsDue (edges : List Edge) (store : Store) (before : List Step) (files : List Moment) : ℕ → Type 0 where
  WasJudged : (i : ℕ) → has_number (out_of_date_in before) i ≡ true → IsDue edges store before files i
  Stale : (i : ℕ) → IsCommand edges i → has_number (judged_in before) i ≡ false → IsOutOfDate edges store [] files files i → IsDue edges store before files i
  Below : (i j : ℕ) (p : List ℕ) → IsCommand edges i → has_number (judged_in before) i ≡ false → Counted edges store files i p → maker edges p ≡ Some j → IsDue edges store before files j → IsDue edges store before files i
  AliasOfNothing : (i : ℕ) (o : List ℕ) → (edge_at edges i).phony ≡ true → inputs (edge_at edges i) ≡ [] → has (outputs (edge_at edges i)) o ≡ true
      → file_at files o ≡ None → IsDue edges store before files i
  AliasOfAbsent : (i : ℕ) (p : List ℕ) → (edge_at edges i).phony ≡ true → has (regular_inputs (edge_at edges i)) p ≡ true
      → maker edges p ≡ None → file_at files p ≡ None → IsDue edges store before files i
  AliasOfDue : (i j : ℕ) (p : List ℕ) → (edge_at edges i).phony ≡ true → has (regular_inputs (edge_at edges i)) p ≡ true
      → maker edges p ≡ Some j → IsDue edges store before files j → IsDue edges store before files i

-- ---- missing sources

-- the path is absent and no edge makes it
pub record IsMissing (edges : List Edge) (files : List Moment) (p : List ℕ) : Type 0 where
  pub source : maker edges p ≡ None
  pub absent : file_at files p ≡ None

abbrev pub NoneIsMissing : List Edge → List Moment → List (List ℕ) → Type 0
NoneIsMissing edges files paths = AllByRecursion (λ p. IsMissing edges files p → ⊥) paths

-- p is the first of these paths that is missing
pub record IsFirstMissing (edges : List Edge) (files : List Moment) (paths : List (List ℕ)) (p : List ℕ) : Type 0 where
  pub before : List (List ℕ)
  pub after : List (List ℕ)
  pub splits : paths ≡ before ++ p ∷ after
  pub earlier : NoneIsMissing edges files before
  pub missing : IsMissing edges files p

-- the edge is due, and in the cone
pub record IsAsked (edges : List Edge) (store : Store) (before : List Step) (files : List Moment) (targets : List (List ℕ)) (i : ℕ) : Type 0 where
  pub within : IsInCone edges (recorded_inputs store edges) targets i
  pub due : IsDue edges store before files i

-- no target is missing, nor an input of a due edge; recorded inputs are none here (this project's own)
pub record NothingIsMissing (edges : List Edge) (store : Store) (before : List Step) (files : List Moment) (targets : List (List ℕ)) : Type 0 where
  pub of_targets : NoneIsMissing edges files targets
  pub of_edges : (i : ℕ) → IsAsked edges store before files targets i → NoneIsMissing edges files (inputs (edge_at edges i))

-- p is the missing input of edge i that is named: no target is missing, nor an input of a due edge with a lower number (this project's own)
pub record IsMissingInput (edges : List Edge) (store : Store) (before : List Step) (files : List Moment) (targets : List (List ℕ)) (i : ℕ) (p : List ℕ) : Type 0 where
  pub asked : IsAsked edges store before files targets i
  pub of_targets : NoneIsMissing edges files targets
  pub lowest : (k : ℕ) → k < i → IsAsked edges store before files targets k → NoneIsMissing edges files (inputs (edge_at edges k))
  pub first : IsFirstMissing edges files (inputs (edge_at edges i)) p
