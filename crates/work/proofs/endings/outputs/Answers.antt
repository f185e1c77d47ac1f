use Rattle.std.proofs.Common.{List, ℕ, Bor, map, ap, ◌∙◌}
use Rattle.paths.specs.Told.{texts_at}
use Rattle.work.proofs.ShownEdges.{output_within, outputs_are, one_more, all_told}
use Rattle.work.proofs.endings.outputs.Goals as goal

pub text-requires : goal.text-requires
text-requires c = output_within c.args.graph.now c.args.edge c.loop-output.output-index c.outputs-output-items.result.now c.output-item.result c.outputs-output-items.ensures c.loop-output-test.true c.output-item.is

pub loop-output-preserved : goal.loop-output-preserved
loop-output-preserved c =
    ap (map (λ (text : Bor (List ℕ)). text.now)) c.in_ok-push.ensures.items
    ∙ one_more c.args.graph.now.manifest.paths c.loop-output.texts.items c.text.result c.outputs-output-items.result.now c.loop-output.output-index c.output-item.result c.loop-output.invariant c.loop-output-test.true c.output-item.is c.text.ensures

pub returns : goal.returns
returns c =
    c.loop-output.invariant
    ∙ (all_told c.args.graph.now.manifest.paths c.outputs-output-items.result.now c.loop-output.output-index c.loop-output-test.false
    ∙ (ap (texts_at c.args.graph.now.manifest.paths) c.outputs-output-items.ensures ∙ outputs_are c.args.graph.now c.args.edge c.requires))
