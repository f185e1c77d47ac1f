use Rattle.std.proofs.Common.{◌≡◌}
use Rattle.audit.specs.Leading.{nothing, steps, target_at}
use Rattle.lexer.specs.Path.{texts}
use Rattle.audit.proofs.lead.walked.Given as goal

abbrev pub invariant-loop-part : goal.invariant-loop-part
invariant-loop-part l = l.walk ≡ steps (target_at l.links.own.now l.links.old.now l.sees) nothing (texts l.yielded)
