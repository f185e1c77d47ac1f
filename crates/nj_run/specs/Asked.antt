-- How what the words of a command line ask for reaches a build.
use Rattle.std.specs.Prelude.{◌≡◌, ◌⊎◌, ℕ, Bool, List, Option, codes, unwrap_or}
use Rattle.std.specs.Option.{option_map}
use Rattle.std.specs.Borrow.{Bor}
use Rattle.model.specs.declared.act.Act.{Act}
use Rattle.model.specs.declared.outcome.Outcome.{Outcome}
use Rattle.model.specs.declared.fault.SiteFault.TheVariants.{Memory}
use Rattle.model.specs.World.{World, View}
use Rattle.status.specs.Pattern.{IsPatternOf}
use Rattle.nj_run.specs.Options.{Options as Asked}
use Rattle.work.specs.declared.report.Options.{Options}
use Rattle.work.specs.declared.report.Report.{Report}
use Rattle.work.specs.declared.report.Report.TheVariants.{Fault}
use Rattle.builder.specs.declared.asked.Limits.{Limits}
use Rattle.builder.specs.Build.{IsBuild}

-- what stands in front of each line where no pattern is given
abbrev pub default_pattern : List ℕ
default_pattern = codes "[%f/%t] "

-- the text of the pattern: the given one, else the default
abbrev pub pattern_text : Option (Bor (List ℕ)) → List ℕ
pattern_text given = unwrap_or (option_map (λ text. text.now) given) default_pattern

-- the options and the targets of a build are those that are asked for, in their order, and its pattern is that of this text
pub record AreHandedOn (asked : Asked) (text : List ℕ) (options : Options) (names : List (List ℕ)) : Type 0 where
  pub file : options.file ≡ asked.file
  pub jobs : options.jobs ≡ asked.jobs
  pub keep : options.keep ≡ asked.keep
  pub verbose : options.verbose ≡ asked.verbose
  pub pattern : IsPatternOf text options.pattern
  pub targets : names ≡ asked.targets

-- the limits that are asked for
abbrev pub limits_asked : Asked → Limits
limits_asked asked = record { jobs = asked.jobs; keep = asked.keep }

-- What is asked for was built and reported so: by just that build file, within these limits, and just these targets in their
-- order. Or memory was refused before the build began; that is reported, and the site is untouched. (What a build shows no
-- contract tells, so neither the pattern nor `-v` stand here: which ones the build is given says `AreHandedOn`.)
abbrev pub BuildsAsked : Bool → (Act → View → Outcome) → Asked → World → World → Report → Type 0
BuildsAsked tells outcome asked old new report =
    IsBuild tells outcome asked.file (limits_asked asked) asked.targets old new report
    ⊎ ((report ≡ Fault Memory) × (new ≡ old))
