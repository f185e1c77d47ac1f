use Rattle.std.proofs.Common.{ap, ◌∙◌, map, ◌∷◌, [], suc, get_or}
use Rattle.std.proofs.lemmas.List.{take_all, map-append}
use Rattle.model.specs.Graph.{edge_at}
use Rattle.paths.specs.Lists.{line_at}
use Rattle.paths.specs.Commands.{no_action}
use Rattle.paths.specs.Told.{text_at, texts_at}
use Rattle.graph.specs.Told.{declared_by}
use Rattle.records.proofs.Places.{map_next, edge_outputs}
use Rattle.records.proofs.lines.output_texts.Goals as goal

pub loop-output-preserved : goal.loop-output-preserved
loop-output-preserved c =
    map_next (text_at c.args.graph.now.manifest.paths) c.outputs-outputs.result.now c.loop-output.output-index c.output-item.result (map (λ t. t.now) c.loop-output.texts.items) (map (λ t. t.now) c.push.new.self.items) c.text_of.result.now
    c.loop-output-test.true c.output-item.is c.loop-output.invariant
    (ap (map (λ t. t.now)) c.in_ok-push.ensures.items ∙ map-append (λ t. t.now) c.loop-output.texts.items (c.text_of.result ∷ [])) c.text_of.ensures

pub returns : goal.returns
returns c =
    let m = c.args.graph.now.manifest in
    c.loop-output.invariant
    ∙ (ap (texts_at m.paths) (take_all c.loop-output.output-index c.outputs-outputs.result.now c.loop-output-test.false ∙ c.outputs-outputs.ensures)
    ∙ edge_outputs m.paths (line_at m.lines c.args.edge) (get_or m.actions c.args.edge no_action) (edge_at (declared_by c.args.graph.now).edges (suc c.args.edge)) (c.numbers_stand.ensures.edges c.args.edge))
