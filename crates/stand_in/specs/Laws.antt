-- What follows of a run for the outputs, where its parts keep the premises of builds.
use Rattle.std.specs.Prelude.{Bool, IsTrue, List, [], ℕ, Option}
use mathlib.Core.Logic.{inl, inr}
use Rattle.model.specs.declared.act.Act.{Act}
use Rattle.model.specs.declared.outcome.Outcome.{Outcome}
use Rattle.model.specs.Faithful.{IsFaithfulStore}
use Rattle.model.specs.Graph.{Addition}
use Rattle.model.specs.History.{IsKeptBetween, KeepsPremises, KeepsRecordsFaithful}
use Rattle.model.specs.Outcome.{Behaviour}
use Rattle.model.specs.Premises.{HaveEnded}
use Rattle.model.specs.Records.{IsOwnIn, LogFormat, OwnFiles}
use Rattle.model.specs.SingleBuild.{Asked, IsCleanlyBuilt, IsSuccess, StartsOnlyStale, asked_with}
use Rattle.model.specs.World.{View, World, view_of}
use Rattle.log_text.specs.DepsFormat.{ReadsLogs}
use Rattle.depfile.specs.Depfile.{IsReading}
use Rattle.builder.specs.Build.{Builds, IsBuild, IsBuilt, asked_of, limits_of}
use Rattle.work.specs.Loads.{ReadsDyndeps}
use Rattle.builder.specs.declared.asked.Limits.{Limits}
use Rattle.work.specs.declared.report.Options.{Options}
use Rattle.work.specs.declared.report.Report.{Report}
use Rattle.stand_in.specs.Moves.{IsPrepared, MayBeBuiltFirst}

-- the program's own files, and how logs, depfiles and dyndep files are read
pub record Way : Type 0 where
  pub own : OwnFiles
  pub format : LogFormat
  pub depfile : List ℕ → Option (List (List ℕ))
  pub dyndep : List ℕ → Option (List Addition)
  pub logs : ReadsLogs format
  pub depfiles : IsReading depfile
  pub dyndeps : ReadsDyndeps dyndep

abbrev pub behaviour_in : (Act → View → Outcome) → Way → Behaviour
behaviour_in outcome way = record { outcome = outcome; depfile = way.depfile; dyndep = way.dyndep }

-- the logs are faithful, where no command runs
abbrev pub AreFaithful : (Act → View → Outcome) → Way → World → Type 0
AreFaithful outcome way world = IsFaithfulStore (behaviour_in outcome way) way.format way.own [] world

-- others wrote as they may between builds
abbrev pub IsBetween : Way → World → World → Type 0
IsBetween way old new = IsKeptBetween way.format way.own [] old new

-- ---- one build

module _ {tells : Bool} {outcome : Act → View → Outcome} {name : List ℕ} {limits : Limits} {given : List (List ℕ)} {old new : World} {report : Report} (way : Way) (built : IsBuilt tells outcome name limits given old new report) where
  abbrev pub asked_in : Asked
  asked_in = asked_with (asked_of built.graph built.folder limits built.targets) built.grown

  abbrev pub builds_in : IsOwnIn way.own built.folder → Builds tells (behaviour_in outcome way) way.format way.own built.graph built.folder limits given built.targets built.grown old new report
  builds_in fits = built.builds way.own way.format way.depfile way.dyndep way.depfiles way.dyndeps way.logs fits

  -- it has its logs in the one folder, and keeps what its records suppose
  abbrev pub KeepsRecordsIn : Type 0
  KeepsRecordsIn = (fits : IsOwnIn way.own built.folder) × KeepsRecordsFaithful tells (behaviour_in outcome way) way.format way.own asked_in old new (builds_in fits).answer (builds_in fits).build

  -- it started only commands out of date, and a success leaves what the clean build gives, where it keeps its premises
  abbrev pub IsBuiltAsClaimed : Type 0
  IsBuiltAsClaimed =
      (fits : IsOwnIn way.own built.folder) (keeps : KeepsPremises tells (behaviour_in outcome way) way.format way.own asked_in old new (builds_in fits).answer (builds_in fits).build)
      → StartsOnlyStale keeps.files.kept.free asked_in.graph.edges (builds_in fits).build.store (builds_in fits).build.steps old.history new.history
      × (IsSuccess (builds_in fits).answer → IsCleanlyBuilt (behaviour_in outcome way) keeps.files.quiet asked_in (builds_in fits).build.store (view_of new.history))

-- ---- what comes before the last build

abbrev pub KeepsRecordsEither : {tells : Bool} {outcome : Act → View → Outcome} {name : List ℕ} {limits : Limits} {given : List (List ℕ)} {old new : World} {report : Report} → Way → IsBuild tells outcome name limits given old new report → Type 0
KeepsRecordsEither way (inl unread) = Unit {0}
KeepsRecordsEither way (inr built) = KeepsRecordsIn way built

abbrev pub KeepsFirst : {tells : Bool} {outcome : Act → View → Outcome} {options : Options} {old new : World} → Way → MayBeBuiltFirst tells outcome options old new → Type 0
KeepsFirst way (inl same) = Unit {0}
KeepsFirst {new = new} way (inr first) = KeepsRecordsEither way first.built.1 × IsBetween way first.end new

-- What generators and others write, and commands that are to end, are edits as they may be between builds; and the build of what
-- generators need keeps what its records suppose.
pub record KeepsPrepared {tells : Bool} {outcome : Act → View → Outcome} {options : Options} {old new : World} (way : Way) (prepared : IsPrepared tells outcome options old new) : Type 0 where
  pub before : IsBetween way old prepared.entry
  pub built : KeepsFirst way prepared.built
  pub edits : IsBetween way prepared.first new

-- ---- the law

-- From faithful logs, all that comes before the last build leaves them faithful, and that build is as claimed.
abbrev pub RunsAreAsClaimed : Type 0
RunsAreAsClaimed =
    (tells : Bool) (outcome : Act → View → Outcome) (options : Options) (targets : List (List ℕ)) (old entry new : World) (report : Report) (way : Way)
    → IsTrue tells → HaveEnded old → AreFaithful outcome way old → (prepared : IsPrepared tells outcome options old entry) → KeepsPrepared way prepared
    → AreFaithful outcome way entry × ((built : IsBuilt tells outcome options.file (limits_of options) targets entry new report) → IsBuiltAsClaimed way built)
