-- What edges do.
use Rattle.std.specs.Prelude.{ℕ, suc, Option, None, Some}
use Rattle.paths.specs.declared.manifest.Action.{Action}
use Rattle.paths.specs.declared.manifest.Action.TheVariants.{Alias, Command}

-- an edge past the last does nothing
abbrev pub no_action : Action
no_action = Alias

-- the place behind that of a number
abbrev pub stop_of : Option ℕ → ℕ
stop_of None = 0
stop_of (Some number) = suc number

-- the place behind that of the dyndep file, where one is named
abbrev pub dyndep_stop : Action → ℕ
dyndep_stop Alias = 0
dyndep_stop (Command command) = stop_of command.dyndep
