-- In which order the edges of a build were settled.
use Rattle.std.specs.Prelude.{◌≡◌, ℕ, Bool, true, false, if◌then◌else◌, List, [], ◌∷◌, ◌++◌, Some}
use Rattle.std.specs.List.{AllByRecursion}
use Rattle.model.specs.declared.graph.Edge.{Edge}
use Rattle.model.specs.declared.event.Moment.{Moment}
use Rattle.model.specs.World.{View, view_of}
use Rattle.model.specs.Calls.{AgreeOn}
use Rattle.model.specs.Graph.{has, has_number, edge_at, maker, outputs, IsCommand}
use Rattle.model.specs.Outcome.{Behaviour, ends_well, given, reports_of, depfile_in}
use Rattle.model.specs.Reading.{needs}
use Rattle.model.specs.Records.{Store}
use Rattle.model.specs.Premises.{AgreesOnReading, EndedAt}
use Rattle.model.specs.Schedule.{Step, Judged, Started, Ended, IsSettled, judged_in, out_of_date_in, started_in, running_in, well_in, done_in}

-- the edges that were judged clean, or whose command ended well, in the order in which they did
abbrev pub settled_in : List Step → List ℕ
settled_in [] = []
settled_in (Judged i out_of_date ∷ steps) = if out_of_date then settled_in steps else i ∷ settled_in steps
settled_in (Started i ∷ steps) = settled_in steps
settled_in (Ended i well ∷ steps) = if well then i ∷ settled_in steps else settled_in steps

-- all that the edge needs is settled, these edges being done
abbrev pub NeedsAreSettled : List Edge → (ℕ → List (List ℕ)) → List ℕ → ℕ → Type 0
NeedsAreSettled edges recorded done i =
    (p : List ℕ) (j : ℕ) → has (needs edges recorded i) p ≡ true → maker edges p ≡ Some j → IsSettled edges done j

-- a command edge that comes next when these are done
pub record IsNextSettled (edges : List Edge) (recorded : ℕ → List (List ℕ)) (done : List ℕ) (i : ℕ) : Type 0 where
  pub command : IsCommand edges i
  pub fresh : has_number done i ≡ false
  pub needs : NeedsAreSettled edges recorded done i

abbrev pub IsSettlingOrder : List Edge → (ℕ → List (List ℕ)) → List ℕ → List ℕ → Type 0
IsSettlingOrder edges recorded done [] = Unit {0}
IsSettlingOrder edges recorded done (i ∷ rest) = IsNextSettled edges recorded done i × IsSettlingOrder edges recorded (done ++ i ∷ []) rest

-- The files hold at output o what the command of edge i gives in a view that holds what these files hold on the edge's
-- reading set and on what the command reports; and all that it reports is among what the edge `Reads`.
pub record IsExplained (B : Behaviour) (edges : List Edge) (Reads : ℕ → List ℕ → Type 0) (files : View) (i : ℕ) (o : List ℕ) : Type 0 where
  pub seen : View
  pub well : ends_well B (edge_at edges i).act seen ≡ true
  pub reading : AgreesOnReading edges files i seen
  pub reports : AgreeOn (reports_of B (edge_at edges i).act seen) seen files
  pub told : AllByRecursion (Reads i) (reports_of B (edge_at edges i).act seen)
  pub gives : files o ≡ given B (edge_at edges i).act seen o

-- What the command of edge i left, outputs and reports, is what it gives in a view that holds what the files of the exit hold on its
-- reading set and on its reports.
pub record LeftAsNow (B : Behaviour) (edges : List Edge) (files after : View) (i : ℕ) : Type 0 where
  pub seen : View
  pub well : ends_well B (edge_at edges i).act seen ≡ true
  pub reading : AgreesOnReading edges files i seen
  pub reports : AgreeOn (reports_of B (edge_at edges i).act seen) seen files
  pub contents : AllByRecursion (λ o. after o ≡ given B (edge_at edges i).act seen o) (outputs (edge_at edges i))
  pub depfile : depfile_in B (edge_at edges i).act after ≡ Some (reports_of B (edge_at edges i).act seen)

-- so did each of these commands that ended well
abbrev pub LeaveAsNow : Behaviour → (ℕ → Bool) → List Edge → List Step → List Moment → List Moment → Type 0
LeaveAsNow B quiet edges steps old new =
    (i : ℕ) (at : List Moment) → quiet i ≡ true → EndedAt i old new at → has_number (well_in steps) i ≡ true → LeftAsNow B edges (view_of new) (view_of at) i

-- what logs tell that are not there
abbrev pub no_records : Store
no_records = record { records = []; deps = [] }

-- each of these edges comes after the makers of all that it needs
abbrev pub AreMakersFirst : List Edge → (ℕ → List (List ℕ)) → List ℕ → List ℕ → Type 0
AreMakersFirst edges recorded before [] = Unit {0}
AreMakersFirst edges recorded before (i ∷ rest) =
    ((p : List ℕ) (j : ℕ) → has (needs edges recorded i) p ≡ true → maker edges p ≡ Some j → has_number before j ≡ true)
    × AreMakersFirst edges recorded (before ++ i ∷ []) rest

-- ---- orderly steps: what every schedule keeps, whatever it was lawful for

-- A step is orderly after those before it: a command edge is judged once, one judged out of date is started once, and one that
-- runs ends.
abbrev pub IsOrderlyStep : List Edge → List Step → Step → Type 0
IsOrderlyStep edges before (Judged i out_of_date) = IsCommand edges i × (has_number (judged_in before) i ≡ false)
IsOrderlyStep edges before (Started i) = (has_number (out_of_date_in before) i ≡ true) × (has_number (started_in before) i ≡ false)
IsOrderlyStep edges before (Ended i well) = has_number (running_in before) i ≡ true

abbrev pub IsOrderlyFrom : List Edge → List Step → List Step → Type 0
IsOrderlyFrom edges before [] = Unit {0}
IsOrderlyFrom edges before (step ∷ steps) = IsOrderlyStep edges before step × IsOrderlyFrom edges (before ++ step ∷ []) steps

abbrev pub IsOrderly : List Edge → List Step → Type 0
IsOrderly edges steps = IsOrderlyFrom edges [] steps

-- ---- makers of what is read come first

-- a command that makes what edge i reads is done: `Reads` says what that is
abbrev pub IsReadAfter : List Edge → (ℕ → List ℕ → Type 0) → List ℕ → ℕ → Type 0
IsReadAfter edges Reads done i = (p : List ℕ) (j : ℕ) → Reads i p → maker edges p ≡ Some j → IsCommand edges j → has_number done j ≡ true

-- when an edge was judged, the commands that make what it reads were done
abbrev pub AreReadFirst : List Edge → (ℕ → List ℕ → Type 0) → List Step → Type 0
AreReadFirst edges Reads steps =
    (before after : List Step) (i : ℕ) (out_of_date : Bool) → steps ≡ before ++ Judged i out_of_date ∷ after → IsReadAfter edges Reads (done_in before) i

-- a command edge that comes next when these are done, what it reads being made by these or by no command
pub record IsNextRead (edges : List Edge) (Reads : ℕ → List ℕ → Type 0) (done : List ℕ) (i : ℕ) : Type 0 where
  pub command : IsCommand edges i
  pub fresh : has_number done i ≡ false
  pub reads : IsReadAfter edges Reads done i

abbrev pub IsReadingOrder : List Edge → (ℕ → List ℕ → Type 0) → List ℕ → List ℕ → Type 0
IsReadingOrder edges Reads done [] = Unit {0}
IsReadingOrder edges Reads done (i ∷ rest) = IsNextRead edges Reads done i × IsReadingOrder edges Reads (done ++ i ∷ []) rest
