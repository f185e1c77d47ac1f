-- That words are handed on only where they ask for an audit, which is one tracer's.
use Rattle.std.specs.Prelude.{◌≡◌, ℕ, ◌<◌, ◌≤◌, Bool, true, false, List, ⊤}
use Rattle.clap.specs.Words.{Text}
use Rattle.nj_run.specs.Options.{AreAsked, Options, audits}
use Rattle.nj_run.specs.declared.handed.Handed.{Handed}
use Rattle.nj_run.specs.declared.handed.Handed.TheVariants.{Ended, Stays}

-- it asks for an audit in which few commands run at once
pub record AsksAudit (asked : Options) : Type 0 where
  pub traces : audits asked ≡ true
  pub plain : asked.why ≡ false
  pub some : 0 < asked.jobs
  pub few : asked.jobs ≤ 16

-- what was handed on ended with the status of a build; only what asks for an audit is
abbrev pub IsHandedFor : Options → Handed → Type 0
IsHandedFor asked (Ended status) = status ≤ 1 × AsksAudit asked
IsHandedFor asked (Stays is_in_folder) = ⊤

-- so it is of words
abbrev pub IsHandedOn : List Text → Handed → Type 0
IsHandedOn words (Ended status) = status ≤ 1 × (asked : Options) × AreAsked words asked × AsksAudit asked
IsHandedOn words (Stays is_in_folder) = ⊤
