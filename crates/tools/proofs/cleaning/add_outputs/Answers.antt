use Rattle.std.proofs.Common.{◌≡◌, ◌≢◌, ℕ, true, List, [], subst}
use Rattle.std.proofs.lemmas.List.{take_all}
use Rattle.model.specs.Graph.{has}
use Rattle.paths.specs.Told.{text_at, texts_at}
use Rattle.tools.specs.Clean.{AddsJust}
use Rattle.tools.proofs.Adding.{adds_next, texts_start}
use Rattle.tools.proofs.cleaning.add_outputs.Goals as goal

pub loop-output-preserved : goal.loop-output-preserved
loop-output-preserved c =
    adds_next (text_at c.args.declared.now.graph.manifest.paths) c.args.outputs.now c.loop-output.output-index c.output-item.result c.args.paths.now c.loop-output.paths c.add_text.new.paths c.text_at.result.now
    c.loop-output-test.true c.output-item.is c.text_at.ensures c.loop-output.invariant c.in_ok-add_text.ensures

pub loop-output-init : goal.loop-output-init
loop-output-init c = texts_start c.args.paths.now

pub returns : goal.returns
returns c =
    let texts = c.args.declared.now.graph.manifest.paths in
    subst (λ (l : List ℕ). AddsJust c.args.paths.now c.loop-output.paths (λ text. (text ≢ []) × (has (texts_at texts l) text ≡ true))) (take_all c.loop-output.output-index c.args.outputs.now c.loop-output-test.false) c.loop-output.invariant
