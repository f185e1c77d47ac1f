use Rattle.seen.proofs.OneOutput.{begins_so}
use Rattle.seen.proofs.lines.one_in.Goals as goal

pub returns-then-eq : goal.returns-then-eq
returns-then-eq c = begins_so 98 c.args.line.now c.in_ok-kind.kind.now c.in_ok-kind.counted.now c.in_ok-output.output.now c.in_ok-kind.ensures.found c.if-eq.ensures c.in_ok-output.ensures

pub returns-then-eq-2 : goal.returns-then-eq-2
returns-then-eq-2 c = begins_so 100 c.args.line.now c.in_ok-kind.kind.now c.in_ok-kind.counted.now c.in_ok-output-2.output.now c.in_ok-kind.ensures.found c.if-eq-2.ensures c.in_ok-output-2.ensures
