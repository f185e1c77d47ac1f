-- What a run of the stand-in is, as moves: a build of what generators need, edits, and a build (this project's own).
use Rattle.std.specs.Prelude.{◌≡◌, ◌⊎◌, ℕ, Bool, false, IsTrue, List, [], Option, Some, None, Result, Ok, Err}
use Rattle.model.specs.declared.act.Act.{Act}
use Rattle.model.specs.declared.outcome.Outcome.{Outcome}
use Rattle.model.specs.World.{World, View, IsIdle}
use Rattle.model.specs.Calls.{HasCause, IsRestart, OnlyLooks}
use Rattle.model.specs.declared.fault.SiteFault.{SiteFault}
use Rattle.theory.specs.Seen.{Looked}
use Rattle.manifest.specs.Answer.{IsGraph, ReadsFile}
use Rattle.graph.specs.Told.{declared_by}
use Rattle.tools.specs.declared.declared.Declared.{Declared}
use Rattle.builder.specs.declared.asked.Limits.{Limits}
use Rattle.builder.specs.Reports.{IsLinked}
use Rattle.work.specs.declared.report.Options.{Options}
use Rattle.work.specs.declared.report.Report.{Report}
use Rattle.work.specs.declared.report.Report.TheVariants.{Success}
use Rattle.builder.specs.Build.{IsBuild, limits_of}
use Rattle.stand_in.specs.declared.build.Ended.{Ended}
use Rattle.stand_in.specs.declared.build.Next.{Next}
use Rattle.stand_in.specs.declared.build.Next.TheVariants.{Build, ReadAnew, End as EndsBy}
use Rattle.stand_in.specs.declared.build.Outcome.{Outcome as End}
use Rattle.stand_in.specs.declared.build.Outcome.TheVariants.{Built, Refused, NotRebuilt}

-- it only looked, and the last call was answered by this fault, or there was no memory for what came behind it
pub record FailedAt (tells : Bool) (old new : World) (fault : SiteFault) : Type 0 where
  pub mid : World
  pub before : OnlyLooks tells old mid
  pub looks : OnlyLooks tells mid new
  pub cause : HasCause {T = Unit {0}} mid new (Err fault)

-- It only looked. Where it ended well and was no end before, the site goes on, and no call was refused where the answer says so; else this
-- fault was the last.
abbrev pub OnlyAsks : {T : Type 0} → Bool → (T → Type 0) → World → World → Result T SiteFault → Type 0
OnlyAsks tells Says old new (Ok value) = OnlyLooks tells old new × (old.stopped ≡ false → (new.stopped ≡ false) × (Says value → Looked tells old new))
OnlyAsks tells Says old new (Err fault) = OnlyLooks tells old new × (old.stopped ≡ false → FailedAt tells old new fault)

-- no call was refused, whatever the answer
abbrev pub AsksWell : {T : Type 0} → Bool → World → World → Result T SiteFault → Type 0
AsksWell {T = T} tells old new result = OnlyAsks {T = T} tells (λ value. Unit {0}) old new result

-- ---- reading

-- the file of this name was read, in calls that only looked and of which none was refused; nothing is recorded of its edges yet
pub record WasReadHere (tells : Bool) (name : List ℕ) (old new : World) (declared : Declared) : Type 0 where
  pub formed : IsGraph (declared_by declared.graph)
  pub linked : IsLinked declared.graph
  pub file : IsTrue tells → ReadsFile name old.history new.history (Ok (declared_by declared.graph))
  pub looked : Looked tells old new

-- it was not, or its edges make no graph: so says the report of a build of it, within any limits, where no command runs
abbrev pub WasUnreadHere : Bool → (Act → View → Outcome) → List ℕ → World → World → Report → Type 0
WasUnreadHere tells outcome name old new report = IsIdle old.events → (limits : Limits) → IsBuild tells outcome name limits [] old new report

-- time went by before it was read, and then there was only looked
pub record WasReadAlone (tells : Bool) (name : List ℕ) (old new : World) (declared : Declared) : Type 0 where
  pub entry : World
  pub before : OnlyLooks tells old entry
  pub read : World
  pub was_read : WasReadHere tells name entry read declared
  pub since : Looked tells read new

abbrev pub WasUnreadAlone : Bool → (Act → View → Outcome) → List ℕ → World → World → Report → Type 0
WasUnreadAlone tells outcome name old new report = (entry : World) × OnlyLooks tells old entry × WasUnreadHere tells outcome name entry new report

-- ---- the whole

-- a build of these options, of some targets
abbrev pub IsOneBuild : Bool → (Act → View → Outcome) → Options → World → World → Report → Type 0
IsOneBuild tells outcome options old new report = (targets : List (List ℕ)) × IsBuild tells outcome options.file (limits_of options) targets old new report

-- it was built with success, and the site started again, so that no command runs
pub record WasBuiltFirst (tells : Bool) (outcome : Act → View → Outcome) (options : Options) (old new : World) : Type 0 where
  pub report : Report
  pub success : (started : ℕ) × (report ≡ Success started)
  pub end : World
  pub built : IsOneBuild tells outcome options old end report
  pub restarted : IsRestart tells end new

abbrev pub MayBeBuiltFirst : Bool → (Act → View → Outcome) → Options → World → World → Type 0
MayBeBuiltFirst tells outcome options old new = (new ≡ old) ⊎ WasBuiltFirst tells outcome options old new

-- a build ended with this report, and then the site was started again
abbrev pub EndsFirst : Bool → (Act → View → Outcome) → Options → World → World → Report → Type 0
EndsFirst tells outcome options old new report = (end : World) × IsOneBuild tells outcome options old end report × IsRestart tells end new

-- What generators need was built, or nothing was needed. Before and behind that nobody but others wrote: those that were there before,
-- and the generators, which ran in the user's place.
pub record IsPrepared (tells : Bool) (outcome : Act → View → Outcome) (options : Options) (old new : World) : Type 0 where
  pub entry : World
  pub before : OnlyLooks tells old entry
  pub first : World
  pub built : MayBeBuiltFirst tells outcome options entry first
  pub edits : OnlyLooks tells first new

-- How a run ends: with the report of the last build, or of the one of what generators need; and where nothing else was to be built, with
-- the report of a build that started nothing. A word that names no target and a generator that failed end it behind the edits.
abbrev pub IsEndOf : Bool → (Act → View → Outcome) → Options → World → World → End → Type 0
IsEndOf tells outcome options old new (Built report) =
    ((entry : World) × IsPrepared tells outcome options old entry × IsOneBuild tells outcome options entry new report)
    ⊎ ((report ≡ Success 0) × IsPrepared tells outcome options old new)
IsEndOf tells outcome options old new (Refused fault) = IsPrepared tells outcome options old new
IsEndOf tells outcome options old new (NotRebuilt None) = IsPrepared tells outcome options old new
IsEndOf tells outcome options old new (NotRebuilt (Some report)) =
    (entry : World) × OnlyLooks tells old entry × EndsFirst tells outcome options entry new report

-- ---- on the way

-- what a stage gives, where its error is the report of a build
abbrev pub end_in : Result Ended Report → End
end_in (Ok ended) = ended.outcome
end_in (Err report) = Built report

abbrev pub outcome_in : Result End Report → End
outcome_in (Ok outcome) = outcome
outcome_in (Err report) = Built report

-- all is prepared, the build files were read then, and since then there was only looked
pub record IsReady (tells : Bool) (outcome : Act → View → Outcome) (options : Options) (old now : World) (declared : Declared) : Type 0 where
  pub entry : World
  pub prepared : IsPrepared tells outcome options old entry
  pub read : World
  pub was_read : WasReadHere tells options.file entry read declared
  pub since : Looked tells read now

-- what generators had their turn for: the files that were read are built, or are to be read anew, or nothing more is to be done
abbrev pub IsNext : Bool → (Act → View → Outcome) → Options → World → World → World → Result Next Report → Type 0
IsNext tells outcome options entry old new (Ok Build) = Looked tells old new
IsNext tells outcome options entry old new (Ok (ReadAnew is_old)) = IsPrepared tells outcome options entry new
IsNext tells outcome options entry old new (Ok (EndsBy end)) = IsEndOf tells outcome options entry new end
IsNext tells outcome options entry old new (Err report) = IsEndOf tells outcome options entry new (Built report)

-- it comes to this, whatever the world was in which the build files were read, or before all was prepared
abbrev pub ComesNext : Bool → (Act → View → Outcome) → Options → Declared → World → World → Result Next Report → Type 0
ComesNext tells outcome options declared old new result =
    (entry : World) → WasReadAlone tells options.file entry old declared → IsNext tells outcome options entry old new result

-- and so it does where what generators need was built before, or nothing of this was needed
abbrev pub ComesOnceBuilt : Bool → (Act → View → Outcome) → Options → Declared → List (List ℕ) → World → World → Result Next Report → Type 0
ComesOnceBuilt tells outcome options declared first mid new result =
    (entry old : World) → WasReadAlone tells options.file entry old declared → MayBeBuiltFirst tells outcome options old mid → (first ≡ [] → mid ≡ old) → IsNext tells outcome options entry old new result

abbrev pub EndsOnceRead : Bool → (Act → View → Outcome) → Options → Declared → World → World → End → Type 0
EndsOnceRead tells outcome options declared old new end =
    (entry : World) → WasReadAlone tells options.file entry old declared → IsEndOf tells outcome options entry new end

abbrev pub EndsOnceReady : Bool → (Act → View → Outcome) → Options → Declared → World → World → End → Type 0
EndsOnceReady tells outcome options declared old new end =
    (entry : World) → IsReady tells outcome options entry old declared → IsEndOf tells outcome options entry new end

abbrev pub EndsOncePrepared : Bool → (Act → View → Outcome) → Options → World → World → End → Type 0
EndsOncePrepared tells outcome options old new end =
    (entry : World) → IsPrepared tells outcome options entry old → IsEndOf tells outcome options entry new end
