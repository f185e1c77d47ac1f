-- What is told of an edge beside its line.
use Rattle.std.specs.Prelude.{ℕ, Bool, List, [], ◌∷◌, Option, None, Some, get_or}
use Rattle.manifest.specs.Described.{mark_in, rule_in}
use Rattle.paths.specs.declared.manifest.Action.{Action}
use Rattle.paths.specs.declared.manifest.Command.{Command as EdgeCommand}
use Rattle.paths.specs.declared.manifest.Action.TheVariants.{Alias, Command}
use Rattle.paths.specs.Commands.{no_action}
use Rattle.tools.specs.declared.declared.Declared.{Declared}

abbrev pub rule_of : Declared → ℕ → List ℕ
rule_of declared e = rule_in declared.described e

abbrev pub runs_generator : Declared → ℕ → Bool
runs_generator declared e = mark_in declared.described e

-- the command of what an edge does
abbrev pub command_at : Action → Option EdgeCommand
command_at Alias = None
command_at (Command command) = Some command

-- the depfile and the response file of what an edge does
abbrev pub files_of : Action → List (List ℕ)
files_of Alias = []
files_of (Command command) = command.act.depfile ∷ command.act.response_path ∷ []

abbrev pub own_files : Declared → ℕ → List (List ℕ)
own_files declared e = files_of (get_or declared.graph.manifest.actions e no_action)
