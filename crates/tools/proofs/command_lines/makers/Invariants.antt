use Rattle.std.proofs.Common.{take}
use Rattle.tools.specs.Answers.{AreMet}
use Rattle.tools.proofs.command_lines.makers.Given as goal

abbrev pub invariant-loop-path : goal.invariant-loop-path
invariant-loop-path l = AreMet l.graph (take l.path-index l.paths) l.met.items l.edges.items
