use Rattle.host.specs.Environment.{IsBlock}
use Rattle.host.proofs.environment.variables.Given as goal

abbrev pub invariant-loop : goal.invariant-loop
invariant-loop l = IsBlock l.block.items
