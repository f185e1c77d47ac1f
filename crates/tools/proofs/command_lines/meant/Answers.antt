use Rattle.std.proofs.Common.{Bool, IfOk, subst, sym}
use Rattle.tools.specs.Answers.{AreMeant}
use Rattle.tools.proofs.command_lines.meant.Goals as goal

pub returns-then-single : goal.returns-then-single
returns-then-single c = subst (λ (single : Bool). IfOk c.makers.result (λ edges. AreMeant c.args.graph.now c.args.paths.now single edges.items)) (sym c.if-single.true) c.makers.ensures

pub returns : goal.returns
returns c = subst (λ (single : Bool). IfOk c.edges_above.result (λ edges. AreMeant c.args.graph.now c.args.paths.now single edges.items)) (sym c.if-single.false) c.edges_above.ensures
