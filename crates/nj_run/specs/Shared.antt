-- The commands that one trace over all of them has to tell of.
use Rattle.std.specs.Prelude.{◌≡◌, ℕ, ℤ, List, [], ◌∷◌, map}
use Rattle.std.specs.Fmt.{signed_decimal}
use Rattle.model.specs.declared.event.Event.{Event}
use Rattle.model.specs.declared.event.Event.TheVariants.{Start, Finish}
use Rattle.shares.specs.Sharing.{shares_of}
use Rattle.shares.specs.declared.families.Families.{Families}
use Rattle.shares.specs.declared.sharing.Shares.{Shares}
use Rattle.nj_run.specs.declared.shared.Started.{Started}

-- the jobs that commands were started for, in their order
abbrev pub jobs_started : List Event → List ℕ
jobs_started [] = []
jobs_started (Start job act stamp ∷ events) = job ∷ jobs_started events
jobs_started (Finish job ok ∷ events) = jobs_started events

-- the jobs of these commands
abbrev pub jobs_of : List Started → List ℕ
jobs_of commands = map (λ (command : Started). command.job) commands

-- The program started just the processes of these numbers, in this order, by what a first reading of the trace tells; whose each line is goes by
-- that reading.
abbrev pub AreSharesOf : Families → List ℤ → Shares → Type 0
AreSharesOf families numbers shares = (families.commands ≡ map signed_decimal numbers) × (shares ≡ shares_of families)
