-- What is to go wrong on a site in memory.
use Rattle.std.specs.Prelude.{ℕ, ◌-◌, ◌==◌, ◌&&◌, Bool, if◌then◌else◌, List, [], ◌∷◌, Option, Some, None}
use Rattle.sim.specs.declared.faults.Call.{Call}
use Rattle.sim.specs.declared.faults.Call.TheVariants.{Read, Stat, Tick, Append, Replace, Write, Remove, MakeDirs, Start, WaitAny, Show}
use Rattle.sim.specs.declared.faults.Trouble.{Trouble}
use Rattle.sim.specs.declared.faults.Trouble.TheVariants.{Refused, Stop}
use Rattle.sim.specs.declared.faults.Named.{Named}

-- a number for each kind of call
abbrev pub place : Call → ℕ
place Read = 0
place Stat = 1
place Tick = 2
place Append = 3
place Replace = 4
place Write = 5
place Remove = 6
place MakeDirs = 7
place Start = 8
place WaitAny = 9
place Show = 10

-- what is named where the device is to refuse a call
abbrev pub refusal : Call → ℕ → Named
refusal call number = record { call = call; left = number; trouble = Refused }

-- what is named where the site is to stop in a call
abbrev pub stop_in : Call → ℕ → ℕ → Named
stop_in call number bytes = record { call = call; left = number; trouble = Stop bytes }

abbrev pub is_next : Call → Named → Bool
is_next call named = (place named.call == place call) && (named.left == 1)

-- of two troubles in one call that of the device comes, and of two stops the first that was named
abbrev pub worse : Option Trouble → Trouble → Trouble
worse None other = other
worse (Some Refused) other = Refused
worse (Some (Stop bytes)) Refused = Refused
worse (Some (Stop bytes)) (Stop others) = Stop bytes

abbrev pub trouble_from : Call → Option Trouble → List Named → Option Trouble
trouble_from call trouble [] = trouble
trouble_from call trouble (named ∷ rest) = trouble_from call (if is_next call named then Some (worse trouble named.trouble) else trouble) rest

-- what goes wrong in the next call of this kind
abbrev pub trouble_in : Call → List Named → Option Trouble
trouble_in call named = trouble_from call None named

-- once a call of this kind has come
abbrev pub after_call : Call → Named → Named
after_call call named = if place named.call == place call then record named { left = named.left - 1 } else named
