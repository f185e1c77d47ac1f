-- A history in which a source is edited during a build, and the next build mends it.
use Rattle.std.specs.Prelude.{◌≡◌, ℕ, ◌==◌, not, Bool, true, false, List, [], ◌∷◌, ◌++◌, take, drop, Some, None, map, codes}
use Rattle.std.specs.List.{AllByRecursion}
use Rattle.model.specs.declared.event.Event.{Event}
use Rattle.model.specs.declared.event.Moment.{Moment}
use Rattle.model.specs.declared.event.Moment.TheVariants.{Wrote, Happened}
use Rattle.model.specs.declared.event.Writer.TheVariants.{Program}
use Rattle.model.specs.World.{file_at, stamp_of, view_of, IsRunning}
use Rattle.model.specs.Graph.{has, has_number, edge_at, maker, regular_inputs, IsCommand}
use Rattle.model.specs.Clean.{clean_build}
use Rattle.model.specs.Reading.{IsRead}
use Rattle.model.specs.Records.{Store, OwnFiles, IsOwnIn, recorded_inputs, build_log_name}
use Rattle.model.specs.OutOfDate.{IsVerdict}
use Rattle.model.specs.Schedule.{Step, started_in, well_in}
use Rattle.model.specs.Premises.{AreQuiet, FilesAreKept, Premises}
use Rattle.model.specs.SingleBuild.{Success, IsCleanlyBuilt}
use Rattle.model.specs.Faithful.{IsFaithfulStore}
use Rattle.model.specs.History.{Visit, Edited, Built, Unread, Restarted, IsHistory, Keeps, exit_of}
use Rattle.model.specs.Driven.{HasLogs, answers_in}
use Rattle.witness.specs.Project.{commands, letters, declared, edges, asked, own, makes_x, reads_x, dyndep_text, reads_dyndep, edited_or_scratch, scratch, lines_from, store_of, first_records}
use Rattle.witness.specs.Disk.{two_run, meanwhile, goes_on, building, mending, first_steps, second_steps, first, built, edited, last, edits, leaves, starts}

-- the moment is among these
pub record Holds (m : Moment) (ms : List Moment) : Type 0 where
  pub before : List Moment
  pub after : List Moment
  pub splits : ms ≡ before ++ m ∷ after

-- one write comes right after another
pub record HoldsBoth (m n : Moment) (ms : List Moment) : Type 0 where
  pub before : List Moment
  pub after : List Moment
  pub splits : ms ≡ before ++ m ∷ n ∷ after

-- the starts and finishes among these moments
abbrev pub events_in : List Moment → List Event
events_in [] = []
events_in (Wrote by path content stamp ∷ ms) = events_in ms
events_in (Happened event ∷ ms) = event ∷ events_in ms

-- all edges but that below the edited source
abbrev pub not_second : ℕ → Bool
not_second i = not (i == 2)

abbrev pub every_edge : ℕ → Bool
every_edge i = true

abbrev pub no_store : Store
no_store = store_of []

abbrev pub first_store : Store
first_store = store_of first_records

-- all premises of the headline, of the first build and of the second
abbrev pub FirstPremises : Type 0
FirstPremises = Premises commands own declared edges (recorded_inputs no_store edges) first_steps first.history built.history

abbrev pub SecondPremises : Type 0
SecondPremises = Premises commands own declared edges (recorded_inputs first_store edges) second_steps edited.history last.history

-- the builds among the visits went by these steps
abbrev pub GoBy : List (List Step) → List (Visit true commands letters) → Type 0
GoBy steps [] = steps ≡ []
GoBy steps (Edited path content old new change ∷ vs) = GoBy steps vs
GoBy steps (Built wanted old new answer build ∷ vs) =
    (these : List Step) × (rest : List (List Step)) × (steps ≡ these ∷ rest) × ((all : OwnFiles) (fits : IsOwnIn all wanted.folder) → (build all fits).steps ≡ these) × GoBy rest vs
GoBy steps (Unread old new answer cause ∷ vs) = ⊥
GoBy steps (Restarted others old new restart ∷ vs) = ⊥

-- That each of these is in the history, one after the other.
pub record ShowsAll : Type 0 where
  -- two commands run at once, in either build
  pub at_once : IsRunning (events_in two_run) 1 × IsRunning (events_in two_run) 2
  pub at_once_again : IsRunning (events_in (take 6 mending)) 2 × IsRunning (events_in (take 6 mending)) 3
  pub parts : (building ≡ two_run ++ (meanwhile ++ goes_on)) × (events_in meanwhile ≡ [])
  -- the dyndep file is made by a command, and what is read in it gives the sixth edge an output, which the seventh reads
  pub dyndep_made : maker declared (codes "dd") ≡ Some 1
  pub dyndep_read : reads_dyndep dyndep_text ≡ Some (makes_x ∷ reads_x ∷ [])
  pub output_added : (maker declared (codes "x") ≡ None) × (maker edges (codes "x") ≡ Some 6)
  pub output_read : IsRead edges (view_of built.history) 7 (codes "x")
  -- two files get one stamp
  pub one_stamp : (stamp_of (file_at built.history (codes "a")) ≡ Some 4) × (stamp_of (file_at built.history (codes "b")) ≡ Some 4)
  -- a line is appended to the log in two writes, of which the first tells nothing
  pub cut : HoldsBoth (Wrote Program build_log_name (Some (codes "a\nb")) 3) (Wrote Program build_log_name (Some (codes "a\nb" ++ codes "\n")) 3) two_run
  pub cut_tells : lines_from None (codes "a\nb") ≡ lines_from None (codes "a\n")
  -- the response file is there when its command starts, and is gone at the end
  pub response_start : building ≡ take 22 building ++ starts 6 6 ∷ drop 23 building
  pub response : (view_of (first.history ++ take 22 building) (codes "o.rsp") ≡ Some (codes "u")) × (view_of built.history (codes "o.rsp") ≡ None)
  -- a command and somebody else write a scratch file, which no edge makes
  pub scratch_file : Holds (leaves 2 (codes "t") (codes "1") 4) meanwhile × Holds (edits (codes "t") (codes "2") 4) meanwhile × (maker edges (codes "t") ≡ None)
  -- a source is edited while the command runs that reads it
  pub edit : Holds (edits (codes "a") (codes "y") 4) meanwhile × IsRunning (events_in two_run) 2 × IsRead edges (view_of built.history) 2 (codes "a")
  -- a command with `restat` ran, as its input was edited, and left its output as it was; what reads that through a phony edge was not started
  pub input : (view_of built.history (codes "k") ≡ Some (codes "ku")) × (view_of edited.history (codes "k") ≡ Some (codes "kw"))
  pub restat : ((edge_at edges 3).restat ≡ true) × (has_number (well_in second_steps) 3 ≡ true) × (file_at last.history (codes "h") ≡ file_at edited.history (codes "h"))
  pub alias : ((edge_at edges 4).phony ≡ true) × (regular_inputs (edge_at edges 5) ≡ codes "p" ∷ []) × IsRead edges (view_of last.history) 5 (codes "h")
  pub not_run : has_number (started_in second_steps) 5 ≡ false

-- What the edit spoils, and no more: of its edge no promise is made, and its output is not what the clean build gives; all others are.
pub record SpoilsOne : Type 0 where
  pub loud : (files : FilesAreKept own edges first.history built.history) (quiet : ℕ → Bool)
      → AreQuiet commands quiet files.free edges (recorded_inputs no_store edges) first_steps first.history built.history → quiet 2 ≡ true → ⊥
  pub holds : view_of built.history (codes "b") ≡ Some (codes "x")
  pub would : clean_build commands edges (view_of built.history) (codes "b") ≡ Some (codes "y")
  pub others : IsCleanlyBuilt commands not_second asked no_store (view_of built.history)

-- The next build starts just the commands that are out of date, and leaves all outputs as the clean build gives them.
pub record MendsAll : Type 0 where
  pub stale : (i : ℕ) → IsCommand edges i → IsVerdict edges first_store [] edited.history edited.history i (has_number (started_in second_steps) i)
  pub started : started_in second_steps ≡ 2 ∷ 3 ∷ []
  pub all : IsCleanlyBuilt commands every_edge asked first_store (view_of last.history)

-- Two builds and the edit between them, from sources alone: they are a history, with these answers, by these worlds and steps, from a
-- faithful store, and keep all premises of the headline; the builds are as a single build is, and leave the logs as they should be.
-- In the first one all edges but one are quiet, and the edited source and the scratch file are free; in the second all are quiet,
-- and the scratch file is free.
pub record RichHistoryIsMet : Type 0 where
  pub visits : List (Visit true commands letters)
  pub history : IsHistory visits first last
  pub answers : answers_in visits ≡ Success 6 ∷ Success 2 ∷ []
  pub exits : map exit_of visits ≡ built ∷ edited ∷ last ∷ []
  pub steps : GoBy (first_steps ∷ second_steps ∷ []) visits
  pub faithful : IsFaithfulStore commands letters own [] first
  pub keeps : AllByRecursion (λ v. Keeps own v) visits
  pub logs : AllByRecursion HasLogs visits
  pub first_premises : FirstPremises
  pub first_quiet : (i : ℕ) → first_premises.files.quiet i ≡ not_second i
  pub first_free : (p : List ℕ) → first_premises.files.kept.free p ≡ has edited_or_scratch p
  pub second_premises : SecondPremises
  pub second_quiet : (i : ℕ) → second_premises.files.quiet i ≡ true
  pub second_free : (p : List ℕ) → second_premises.files.kept.free p ≡ has scratch p
  pub spoils : SpoilsOne
  pub mends : MendsAll
  pub shows : ShowsAll
