-- What a build of a script is, between the lines before and behind it.
use Rattle.std.specs.Prelude.{◌≡◌, ℕ, true, List, []}
use Rattle.model.specs.World.{World}
use Rattle.model.specs.Calls.{IsRestart}
use Rattle.sim.specs.declared.sim.Sim.{Sim}
use Rattle.sim.specs.declared.toy.Toy.{Toy}
use Rattle.sim.specs.Toy.{toy_outcome}
use Rattle.sim.specs.World.{world_of}
use Rattle.work.specs.declared.report.Options.{Options}
use Rattle.work.specs.declared.report.Report.{Report}
use Rattle.work.specs.declared.report.Report.TheVariants.{Success, Failed, Refused, Fault}
use Rattle.builder.specs.Build.{IsBuild, limits_of}

-- after a fault the site is started again, and after any other answer it stays as the build left it
abbrev pub GoesOn : Report → World → World → Type 0
GoesOn (Success started) exit new = new ≡ exit
GoesOn (Failed outputs) exit new = new ≡ exit
GoesOn (Refused refusal) exit new = new ≡ exit
GoesOn (Fault fault) exit new = IsRestart true exit new

-- These targets, or the default ones, were built as the options say, and then the site went on, with nothing named to go wrong any more.
pub record BuildsAlone (options : Options) (given : List (List ℕ)) (old new : Sim Toy) (report : Report) : Type 0 where
  pub exit : World
  pub build : IsBuild true toy_outcome options.file (limits_of options) given (world_of old) exit report
  pub goes_on : GoesOn report exit (world_of new)
  pub no_faults : new.faults ≡ []
  pub no_gate : new.gate ≡ 0
