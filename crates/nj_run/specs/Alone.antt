-- A build in a folder in which others may build too.
use Rattle.std.specs.Prelude.{◌≡◌, Bool, List, ℕ, Result, IfOk, IfErr}
use Rattle.model.specs.declared.act.Act.{Act}
use Rattle.model.specs.declared.outcome.Outcome.{Outcome}
use Rattle.model.specs.World.{World, View}
use Rattle.model.specs.Calls.{OnlyLooks}
use Rattle.builder.specs.declared.reading.Reading.{Reading}
use Rattle.work.specs.declared.report.Options.{Options}
use Rattle.work.specs.declared.report.Report.{Report}
use Rattle.builder.specs.Build.{IsBuild, IsUnread, WasRead, limits_of}
use Rattle.nj_run.specs.Options.{Options as Asked}
use Rattle.nj_run.specs.Asked.{BuildsAsked}

-- time went by, in which the site itself did nothing and was refused nothing
pub record Passes (tells : Bool) (old new : World) : Type 0 where
  pub looks : OnlyLooks tells old new
  pub failures : new.failures ≡ old.failures
  pub stopped : new.stopped ≡ old.stopped
  pub earlier : new.earlier ≡ old.earlier

-- Once time had gone by, the file that the options name was read, with just these targets; time went by again, and then nobody was
-- waited for.
pub record WasReadAlone (tells : Bool) (options : Options) (given : List (List ℕ)) (old new : World)
    (reading : Reading) : Type 0 where
  pub entry : World
  pub before : Passes tells old entry
  pub read : World
  pub was_read : WasRead tells options entry read reading
  pub given_is : reading.asked.given.now ≡ given
  pub since : Passes tells read new

-- once time had gone by, the file of this name was not read, for this reason
pub record WasUnreadAlone (tells : Bool) (name : List ℕ) (old new : World) (report : Report) : Type 0 where
  pub entry : World
  pub before : Passes tells old entry
  pub unread : IsUnread tells name entry new report

-- once time had gone by, what these options and targets ask for was built
pub record IsBuiltAlone (tells : Bool) (outcome : Act → View → Outcome) (options : Options) (given : List (List ℕ))
    (old new : World) (report : Report) : Type 0 where
  pub entry : World
  pub before : Passes tells old entry
  pub built : IsBuild tells outcome options.file (limits_of options) given entry new report

-- Once nobody else was at work in the folder, what is asked for was built and reported so. What was read before that counts for nothing.
pub record BuildsAlone (tells : Bool) (outcome : Act → View → Outcome) (asked : Asked) (old new : World)
    (report : Report) : Type 0 where
  pub entry : World
  pub before : Passes tells old entry
  pub built : BuildsAsked tells outcome asked entry new report
