-- Where others edit while a build runs, its clauses say less: of each the smallest history in which more would be false. And what the
-- clauses on verdicts refuse, where an edge reads what only a dyndep file makes.
use Rattle.std.specs.Prelude.{◌≡◌, ◌⊎◌, ℕ, ◌==◌, Bool, true, false, if◌then◌else◌, List, [], ◌∷◌, ◌++◌, Some, None, bytes_eq, codes}
use Rattle.model.specs.declared.event.Event.{Event}
use Rattle.model.specs.declared.event.Event.TheVariants.{Start, Finish}
use Rattle.model.specs.declared.event.Moment.{Moment}
use Rattle.model.specs.declared.event.Moment.TheVariants.{Wrote, Happened}
use Rattle.model.specs.declared.event.Writer.TheVariants.{Program, Command, Someone}
use Rattle.model.specs.declared.graph.Edge.{Edge}
use Rattle.model.specs.declared.record.Record.TheVariants.{Done}
use Rattle.model.specs.World.{file_at, view_of}
use Rattle.model.specs.Graph.{grown_edge}
use Rattle.model.specs.Outcome.{Behaviour}
use Rattle.model.specs.Records.{Store, store_in}
use Rattle.model.specs.OutOfDate.{ReadsNoFree, IsVerdict, IsMissing, IsMissingInput}
use Rattle.model.specs.Schedule.{Step, Judged}
use Rattle.model.specs.Phases.{NothingNeededIsFree, IsPointAfter, IsNothingMissing}
use Rattle.model.specs.Premises.{FilesAreKept, InputsAreKnown, none_free}
use Rattle.model.specs.SingleBuild.{Asked, MayChange, AreJudgedAt, JudgedAt, HeldAt, IsCleanlyBuilt}
use Rattle.model.specs.Kept.{LeavesNothing}
use Rattle.witness.specs.Small.{copy, edge_with, edges, asked, copied, copies, words, no_records, done_under, task}
use Rattle.witness.specs.Refused.{own, ran_well}
use Rattle.witness.specs.Edited.{entry, build}
use Rattle.witness.specs.Forbidden.{before, copied_over, put_back, failing, forged}
use Rattle.witness.specs.Dyndep.{edge_of, runs_with, makes_dd, makes_o, says, text, sources, nothing_recorded, reads_x, reads_x_grown}

-- ---- one command

-- the source is saved anew
abbrev pub saved : List Moment
saved = Wrote Someone (codes "a") (Some (codes "y")) 11 ∷ []

-- it is deleted
abbrev pub deleted : List Moment
deleted = Wrote Someone (codes "a") None 10 ∷ []

-- the verdict on the edge, which has the record of a start under 9, by the files of `now`
abbrev pub Judges : List Moment → List Moment → Bool → Type 0
Judges old now out_of_date = IsVerdict edges (done_under 9) [] old now 1 out_of_date

-- whatever others may write there, the edge reads of that
abbrev pub ReadsFree : List Moment → List Moment → Type 0
ReadsFree old new = (files : FilesAreKept own edges old new) → ReadsNoFree files.free edges (done_under 9) new 1 → ⊥

-- and an edge needs of that
abbrev pub NeedsFree : List Moment → List Moment → Type 0
NeedsFree old new = (files : FilesAreKept own edges old new) → NothingNeededIsFree files.free task → ⊥

-- an edge has one verdict
abbrev pub OneVerdict : Type 0
OneVerdict =
    (edges : List Edge) (store : Store) (ran : List ℕ) (old new : List Moment) (i : ℕ) (b c : Bool)
    → IsVerdict edges store ran old new i b → IsVerdict edges store ran old new i c → b ≡ c

-- Of the frame, of verdicts, of missing sources, and of what is left to do.
pub record UnsaidOfOne : Type 0 where
  -- a source that is edited is not as it was, though nothing of the build may change it
  pub unchanged : (file_at (entry ++ build) (codes "a") ≡ file_at entry (codes "a")) ⊎ MayChange own edges ran_well (codes "a") → ⊥
  pub changes : (files : FilesAreKept own edges entry (entry ++ build)) → files.free (codes "a") ≡ true
  -- the edge is clean by its stats; then the source is saved, and by the files of the exit it is out of date
  pub clean : Judges copied_over copied_over false
  pub outdated : Judges copied_over (copied_over ++ saved) false → ⊥
  pub reads_free : ReadsFree copied_over (copied_over ++ saved)
  -- the edge is out of date, and is started; then an older source is put back, and by the files of the exit it was not (no clause on
  -- verdicts supposes that stamps grow)
  pub stale : Judges (copied_over ++ saved) (copied_over ++ saved) true
  pub renewed : Judges (copied_over ++ saved) (copied_over ++ saved ++ put_back) true → ⊥
  -- the source is deleted behind the entry, before it is looked for: the answer that it is missing is not so of the entry
  pub missing : IsMissing edges (before ++ deleted) (codes "a")
  pub not_missing : (at : List Moment) → IsPointAfter [] before (before ++ deleted) at
      → IsMissingInput edges no_records [] at (codes "b" ∷ []) 1 (codes "a") → ⊥
  pub needs_free : NeedsFree before (before ++ deleted)
  -- it is written behind the entry, before it is looked for: that nothing is missing is not so of the entry
  pub was_missing : IsNothingMissing own task no_records [] [] before → ⊥
  pub needs_it_free : NeedsFree [] before
  -- the source is edited while its command runs: the edge is left out of date
  pub left : LeavesNothing (λ i. true) asked no_records (done_under 9) ran_well entry (entry ++ build) → ⊥
  -- a log that somebody writes while it is read tells what it did not at the entry (that is no edit that may be: `forbidden_rows`)
  pub logs : store_in words own (view_of (failing ++ forged)) ≡ store_in words own (view_of failing) → ⊥

-- ---- two commands

-- `build b: copy a`, and `build c: copy b`
abbrev pub copies_both : Behaviour
copies_both = record {
  outcome = λ act view.
      if bytes_eq act.command (codes "copy") then copied (view (codes "a"))
      else record { ok = true; writes = record { path = codes "c"; content = view (codes "b"); only_changes = false } ∷ [] };
  depfile = copies.depfile;
  dyndep = copies.dyndep;
}

abbrev pub asked_both : Asked
asked_both = record {
  graph = record { edges = edge_with copy ∷ edge_of (codes "c") (codes "b" ∷ []) [] None ∷ []; pools = []; defaults = []; builddir = [] };
  declared = edge_with copy ∷ edge_of (codes "c") (codes "b" ∷ []) [] None ∷ [];
  targets = [];
  folder = [];
  jobs = 1;
  keep = 1;
}

-- behind the build in which `a` was edited, the second command has run
abbrev pub copied_both : List Moment
copied_both = entry ++ build ++ Wrote (Command 2) (codes "c") (Some (codes "x")) 11 ∷ []

-- ---- a dyndep file

-- `dd` is there and makes no part of a build
abbrev pub with_dd : List Moment
with_dd = Wrote Program (codes "dd") (Some text) 1 ∷ []

-- it is edited behind its load
abbrev pub rewritten : List Moment
rewritten = Wrote Someone (codes "dd") (Some (codes "z")) 2 ∷ []

-- `build dd: cat dd.src`, `build o: two a || dd` with `dyndep = dd`, which says that `o` makes `x` too, and `build z: cat x`
abbrev pub reads_x_early : List Edge
reads_x_early = makes_dd ∷ makes_o ∷ edge_of (codes "z") (codes "x" ∷ []) [] None ∷ []

abbrev pub reads_x_early_grown : List Edge
reads_x_early_grown = makes_dd ∷ grown_edge makes_o says ∷ edge_of (codes "z") (codes "x" ∷ []) [] None ∷ []

-- `z` has the record of a start under 5; then it was made from the `x` of that time
abbrev pub z_recorded : Store
z_recorded = record { records = Done (codes "z" ∷ []) 5 (runs_with (codes "z")) ∷ []; deps = [] }

abbrev pub with_z : List Moment
with_z =
    sources
    ++ Wrote Program (codes "h") (Some text) 3
    ∷ Wrote Program (codes "x") (Some text) 4
    ∷ Wrote Program (codes "z") (Some text) 6
    ∷ []

-- the build makes `dd`, and then `o` and a new `x`
abbrev pub starts_dd : Event
starts_dd = Start 1 (runs_with (codes "dd")) 7

abbrev pub behind_start : List Moment
behind_start =
    Wrote (Command 1) (codes "dd") (Some text) 8
    ∷ Happened (Finish 1 true)
    ∷ Happened (Start 2 (runs_with (codes "o")) 9)
    ∷ Wrote (Command 2) (codes "o") (Some text) 10
    ∷ Wrote (Command 2) (codes "x") (Some text) 10
    ∷ Happened (Finish 2 true)
    ∷ []

abbrev pub makes_x : List Moment
makes_x = Happened starts_dd ∷ behind_start

-- before the load the first edge was judged out of date, and nothing else was done
abbrev pub at_first : List Step
at_first = Judged 1 true ∷ []

pub record UnsaidOfLoads : Type 0 where
  -- a dyndep file that is edited behind its load does not hold what it held then
  pub held : HeldAt (codes "dd") (Some text) [] with_dd (with_dd ++ rewritten)
  pub not_held : view_of (with_dd ++ rewritten) (codes "dd") ≡ Some text → ⊥
  -- A build that judges every edge clean, where one reads `x` without standing below `dd`: who makes that is not known, so nothing is
  -- said of verdicts by the files of the exit; those of then refuse it.
  pub unknown : InputsAreKnown reads_x reads_x_grown nothing_recorded → ⊥
  pub all_clean : (new : List Moment) → AreJudgedAt none_free reads_x_grown no_records [] (Judged 1 false ∷ Judged 2 false ∷ []) with_dd new → ⊥
  -- `z` is judged before `dd` is loaded, and is clean; by the files of the exit, in which `x` is made anew, it is out of date, and a
  -- build that judges so is refused
  pub by_then : IsVerdict reads_x_early z_recorded [] with_z with_z 3 false
  pub by_exit : IsVerdict reads_x_early_grown z_recorded [] with_z (with_z ++ makes_x) 3 true
  pub not_by_exit : JudgedAt none_free reads_x_early z_recorded at_first 3 true with_z (with_z ++ makes_x) → ⊥

pub record UnsaidRows : Type 0 where
  pub one_verdict : OneVerdict
  pub of_one : UnsaidOfOne
  -- an edge that reads nothing edited, below one that does, is not as the clean build gives it
  pub below : IsCleanlyBuilt copies_both (λ i. i == 2) asked_both no_records (view_of copied_both) → ⊥
  pub of_loads : UnsaidOfLoads
