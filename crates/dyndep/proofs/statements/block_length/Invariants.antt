use Rattle.std.proofs.Common.{◌≡◌, ◌+◌, drop}
use Rattle.dyndep.specs.Refused.{block_length, forms_in}
use Rattle.dyndep.proofs.statements.block_length.Given as goal

abbrev pub invariant-loop-count : goal.invariant-loop-count
invariant-loop-count l = block_length (forms_in l.lines) ≡ l.count + block_length (forms_in (drop l.count l.lines))
