-- How dyndep files are read by a build, and why one ends it.
use Rattle.std.specs.Prelude.{◌≡◌, ℕ, Bool, true, false, IsTrue, List, [], map, Option, None, Some, option_map, Result, Ok, Err}
use Rattle.model.specs.declared.event.Moment.{Moment}
use Rattle.model.specs.declared.graph.Edge.{Edge}
use Rattle.model.specs.World.{World, view_of}
use Rattle.model.specs.Calls.{OnlyLooks}
use Rattle.model.specs.Graph.{Addition, has, edge_at, maker, inputs, first_output}
use Rattle.model.specs.Phases.{IsNextLoad, IsPointAfter}
use Rattle.model.specs.Premises.{FilesAreKept}
use Rattle.model.specs.Records.{OwnFiles, Store}
use Rattle.model.specs.Schedule.{Step}
use Rattle.model.specs.SingleBuild.{Asked, HeldAt, task_of}
use Rattle.dyndep.specs.declared.addition.Addition.{Addition as Statement}
use Rattle.dyndep.specs.declared.fault.DynFault.{DynFault}
use Rattle.dyndep.specs.declared.fault.DynFault.TheVariants as said
use Rattle.dyndep.specs.Dyndep.{IsRead, accepted}
use Rattle.graph.specs.Extended.{addition_of, IsUnfit}
use Rattle.graph.specs.Linked.{IsLowestOccupied}
use Rattle.work.specs.declared.report.Report.{Report}
use Rattle.work.specs.declared.report.Report.TheVariants.{Success, Failed, Refused, Fault}
use Rattle.work.specs.declared.report.Refusal.TheVariants.{File, MadeTwice, NoDyndepInput, Occupied, NoDyndep, BadVersion, BadStatement, Unfit, UnknownTarget, Cycle, Missing}

-- a function that reads each dyndep file by its grammar, and gives None where it is refused
abbrev pub ReadsDyndeps : (List ℕ → Option (List Addition)) → Type 0
ReadsDyndeps reading = (bytes : List ℕ) → (outcome : Result (List Statement) DynFault) × IsRead bytes outcome × (reading bytes ≡ option_map (map addition_of) (accepted outcome))

-- the file held this at a point where just these steps were done
pub record HeldThen (done : List Step) (file : List ℕ) (old new : List Moment) (held : Option (List ℕ)) : Type 0 where
  pub at : List Moment
  pub point : IsPointAfter done old new at
  pub is : view_of at file ≡ held

-- The file was to be loaded next where just these steps were done, and it held then what is not taken: at a moment of then; and, where
-- files are kept and it is not free, right behind the last start or finish.
pub record IsRefusedFile (tells : Bool) (own : OwnFiles) (asked : Asked) (store : Store) (done : List Step) (old new : World) (file : List ℕ) (Faulty : Option (List ℕ) → Type 0) : Type 0 where
  pub next : IsNextLoad (task_of asked store) done file
  pub held : Option (List ℕ)
  pub faulty : Faulty held
  pub was : IsTrue tells → HeldAt file held done old.history new.history
  pub is : IsTrue tells → (files : FilesAreKept own asked.graph.edges old.history new.history) → files.free file ≡ false → HeldThen done file old.history new.history held

-- a file that says so
abbrev pub IsSaying : Result (List Statement) DynFault → Option (List ℕ) → Type 0
IsSaying outcome held = (content : List ℕ) × (held ≡ Some content) × IsRead content outcome

-- a file whose statements do not fit these edges
abbrev pub IsUnfitFor : List Edge → List ℕ → List ℕ → Option (List ℕ) → Type 0
IsUnfitFor edges file output held = (statements : List Statement) × IsSaying (Ok statements) held × IsUnfit edges file (map addition_of statements) output

-- the path is a source; and where an output is named beside it, it is an input of an edge with this first output
abbrev pub NamesSource : List Edge → List ℕ → Option (List ℕ) → Type 0
NamesSource edges path None = maker edges path ≡ None
NamesSource edges path (Some output) =
    (i : ℕ) × (output ≡ first_output (edge_at edges i)) × (has (inputs (edge_at edges i)) path ≡ true) × (maker edges path ≡ None)

-- why a dyndep file has ended the build, where one has, by these steps up to it: it is absent, or holds what cannot be read or does
-- not fit; why a depfile or a response file has, before anything was done; and of which path it was found that it is missing, whatever
-- its file is
abbrev pub RefusesFile : Bool → OwnFiles → Asked → Store → List Step → World → World → Report → Type 0
RefusesFile tells own asked store done old new (Success started) = Unit {0}
RefusesFile tells own asked store done old new (Failed outputs) = Unit {0}
RefusesFile tells own asked store done old new (Refused (File fault)) = Unit {0}
RefusesFile tells own asked store done old new (Refused (MadeTwice path)) = Unit {0}
RefusesFile tells own asked store done old new (Refused (NoDyndepInput path)) = Unit {0}
RefusesFile tells own asked store done old new (Refused (Occupied occupied)) = (done ≡ []) × OnlyLooks tells old new × IsLowestOccupied asked.folder asked.declared occupied
RefusesFile tells own asked store done old new (Refused (NoDyndep file)) = IsRefusedFile tells own asked store done old new file (λ held. held ≡ None)
RefusesFile tells own asked store done old new (Refused (BadVersion file)) = IsRefusedFile tells own asked store done old new file (IsSaying (Err said.BadVersion))
RefusesFile tells own asked store done old new (Refused (BadStatement file)) = IsRefusedFile tells own asked store done old new file (IsSaying (Err said.BadStatement))
RefusesFile tells own asked store done old new (Refused (Unfit unfit)) = IsRefusedFile tells own asked store done old new unfit.file (IsUnfitFor asked.graph.edges unfit.file unfit.output)
RefusesFile tells own asked store done old new (Refused (UnknownTarget target)) = Unit {0}
RefusesFile tells own asked store done old new (Refused (Cycle paths)) = Unit {0}
RefusesFile tells own asked store done old new (Refused (Missing missing)) = NamesSource asked.graph.edges missing.path missing.needed_by
RefusesFile tells own asked store done old new (Fault fault) = Unit {0}
