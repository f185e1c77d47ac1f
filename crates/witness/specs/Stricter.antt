-- The premises of builds in stricter words, as they stood before: each write is stamped later than all before, nobody else writes,
-- commands write their outputs and depfiles alone and leave what they give from the files of the exit.
use Rattle.std.specs.Prelude.{◌≡◌, ◌⊎◌, ◌<◌, ◌≤◌, max, ℕ, Bool, true, false, List, [], ◌∷◌, ◌++◌}
use Rattle.model.specs.declared.event.Event.TheVariants.{Start, Finish}
use Rattle.model.specs.declared.event.Moment.{Moment}
use Rattle.model.specs.declared.event.Moment.TheVariants.{Wrote, Happened}
use Rattle.model.specs.declared.graph.Edge.{Edge}
use Rattle.model.specs.World.{view_of, latest}
use Rattle.model.specs.Graph.{has_number}
use Rattle.model.specs.Outcome.{Behaviour}
use Rattle.model.specs.Premises.{LogsAreLeft, FilesAreKept, OneOutcome, KeepToOutputs, OwnFilesApart, NothingIsEdited, none_free, RecordedApart, ReportsComeFromAbove, DyndepOutputsAreReadBelow, Premises, KeepsFaith}
use Rattle.model.specs.Records.{OwnFiles, Store}
use Rattle.model.specs.Schedule.{Step, judged_in, well_in}
use Rattle.theory.specs.Order.{LeaveAsNow}

-- each of these writes is stamped later than all before
abbrev pub AreLater : ℕ → List Moment → Type 0
AreLater latest [] = Unit {0}
AreLater latest (Wrote by path content stamp ∷ ms) = (latest < stamp) × AreLater stamp ms
AreLater latest (Happened event ∷ ms) = AreLater latest ms

-- each start is stamped no later than what was written before it: its stamp is that of a tick
abbrev pub AreOfWrites : ℕ → List Moment → Type 0
AreOfWrites latest [] = Unit {0}
AreOfWrites latest (Wrote by path content stamp ∷ ms) = AreOfWrites (max latest stamp) ms
AreOfWrites latest (Happened (Start job act stamp) ∷ ms) = (stamp ≤ latest) × AreOfWrites latest ms
AreOfWrites latest (Happened (Finish job ok) ∷ ms) = AreOfWrites latest ms

-- every edge
abbrev pub all_edges : ℕ → Bool
all_edges i = true

pub record StricterPremises (B : Behaviour) (own : OwnFiles) (declared edges : List Edge) (recorded : ℕ → List (List ℕ)) (steps : List Step) (old new : List Moment) : Type 0 where
  pub commands : KeepToOutputs none_free edges old new
  pub own_files : OwnFilesApart own edges
  pub edits : NothingIsEdited old new
  pub recorded_apart : RecordedApart own recorded
  pub stamps : (more : List Moment) → new ≡ old ++ more → AreLater (latest old) more
  pub reports : ReportsComeFromAbove B own edges recorded steps old new
  pub dyndep : DyndepOutputsAreReadBelow B declared edges recorded steps old new
  pub one_outcome : OneOutcome B all_edges edges steps (view_of new)
  pub left : LeaveAsNow B all_edges edges steps old new

-- Premises in which no path is free and all edges are quiet, so that the theorem says of them what it said before.
pub record MeetsAll (B : Behaviour) (own : OwnFiles) (declared edges : List Edge) (recorded : ℕ → List (List ℕ)) (store : Store) (steps : List Step) (old new : List Moment) : Type 0 where
  pub premises : Premises B own declared edges recorded steps old new
  pub none_free : (p : List ℕ) → premises.files.kept.free p ≡ false
  pub all_quiet : (i : ℕ) → premises.files.quiet i ≡ true
  pub faith : KeepsFaith B own edges store steps old new

-- The stricter premises imply these, where each edge that ended well was judged, as in each lawful build, and each start of the whole
-- history has the stamp of a tick.
abbrev pub StricterSuffice : Type 0
StricterSuffice =
    (B : Behaviour) (own : OwnFiles) (declared edges : List Edge) (recorded : ℕ → List (List ℕ)) (store : Store) (steps : List Step) (old new : List Moment)
    → ((i : ℕ) → has_number (well_in steps) i ≡ true → has_number (judged_in steps) i ≡ true) → AreOfWrites 0 new
    → StricterPremises B own declared edges recorded steps old new → MeetsAll B own declared edges recorded store steps old new

-- Where files are kept, others have left the logs; and where nobody else has written anything, whatever commands did.
abbrev pub LogsAreLeftByBoth : Type 0
LogsAreLeftByBoth = (own : OwnFiles) (edges : List Edge) (old new : List Moment) → FilesAreKept own edges old new ⊎ NothingIsEdited old new → LogsAreLeft own old new
