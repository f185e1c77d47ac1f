use Rattle.std.proofs.Common.{subst, sym}
use Rattle.graph.specs.declared.graph.Graph.{Graph}
use Rattle.tools.specs.Joined.{KeepsEdges}
use Rattle.tools.proofs.Logging.{keeps_none, keeps_numbered, keeps_then}
use Rattle.tools.proofs.recorded.join_paths.Goals as goal

pub loop-number-init : goal.loop-number-init
loop-number-init c = keeps_none c.args.graph.now

pub returns-in_err-add_path : goal.returns-in_err-add_path
returns-in_err-add_path c = subst (λ (graph : Graph). KeepsEdges c.args.graph.now graph) (sym c.in_err-add_path.ensures.err) c.loop-number.invariant

pub loop-number-preserved : goal.loop-number-preserved
loop-number-preserved c =
    keeps_then c.args.graph.now c.loop-number.graph c.add_path.new.self c.loop-number.invariant
    (keeps_numbered c.loop-number.graph c.add_path.new.self c.in-Some.path.now c.in_ok-add_path.field-0 c.in_ok-add_path.ensures.added)
