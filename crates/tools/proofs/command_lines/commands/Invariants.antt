use Rattle.std.proofs.Common.{◌≡◌, take, string_bytes}
use Rattle.tools.specs.Answers.{commands_of, lines}
use Rattle.tools.proofs.command_lines.commands.Given as goal

abbrev pub invariant-loop-edge : goal.invariant-loop-edge
invariant-loop-edge l = string_bytes l.told ≡ lines (commands_of l.declared (take l.edge-index l.edge-items))
