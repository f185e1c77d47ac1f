use Rattle.std.proofs.Common.{sym, subst}
use Rattle.host.specs.Process.{IsOf}
use Rattle.host.proofs.commands.Running.has_ended.Goals as goal

-- the number stays known over the question, and over that to the output
pub returns-then-matches-clause-number : goal.returns-then-matches-clause-number
returns-then-matches-clause-number c = λ number has. c.has_ended-answer.ensures.number number has

pub returns-then-is_let_go-clause-number : goal.returns-then-is_let_go-clause-number
returns-then-is_let_go-clause-number c = λ number has. subst (λ process. IsOf number process.state) (sym c.is_let_go.ensures.process) (c.has_ended-answer.ensures.number number has)

pub returns-clause-number : goal.returns-clause-number
returns-clause-number c = λ number has. subst (λ process. IsOf number process.state) (sym c.is_let_go.ensures.process) (c.has_ended-answer.ensures.number number has)
