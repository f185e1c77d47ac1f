use Rattle.std.proofs.Common.{ℕ, sym, ◌∙◌, ap, get_or, arith, List}
use Rattle.model.specs.declared.graph.Edge.{Edge}
use Rattle.model.specs.Graph.{outputs, regular_inputs}
use Rattle.theory.proofs.Lists.{has_number-left}
use Rattle.paths.specs.declared.line.Line.{Line}
use Rattle.paths.specs.declared.manifest.Action.{Action}
use Rattle.paths.specs.Lists.{line_at, line_regular_inputs}
use Rattle.paths.specs.Commands.{no_action}
use Rattle.graph.proofs.GraphIs.{edge_is, inputs_are}
use Rattle.graph.proofs.Makes.{maker_is, input_below, output_below}
use Rattle.graph.proofs.Texts.{outputs_of, regular_of, phony_of, length-edges}
use Rattle.graph.proofs.laws.lists_stand.Goals as goal

pub returns : goal.returns
returns c =
    let graph = c.args.graph.now in
    let paths : List (List ℕ) = graph.manifest.paths in
    let line : ℕ → Line = (λ e. line_at graph.manifest.lines e) in
    let action : ℕ → Action = (λ e. get_or graph.manifest.actions e no_action) in
    record {
      fits = length-edges paths graph.manifest.lines graph.manifest.actions graph.manifest.fits;
      outputs_are = λ e. sym (ap outputs (edge_is graph e) ∙ outputs_of paths (line e) (action e));
      inputs_are = λ e. sym (inputs_are graph e);
      regular_are = λ e. sym (ap regular_inputs (edge_is graph e) ∙ regular_of paths (line e) (action e));
      phony_is = λ e. sym (ap (λ (edge : Edge). edge.phony) (edge_is graph e) ∙ phony_of paths (line e) (action e));
      makers = λ p lt. maker_is graph.manifest graph.makers graph.making graph.apart p lt;
      outputs_within = λ e p h. let low = output_below graph.manifest e p h in omega (arith, low, graph.manifest.names);
      inputs_within = λ e p h. let low = input_below graph.manifest e p h in omega (arith, low, graph.manifest.names);
      regular_within = λ e p h.
          let low = input_below graph.manifest e p (has_number-left (line_regular_inputs (line e)) (line e).order_only_inputs p h) in
          omega (arith, low, graph.manifest.names);
      recorded_within = λ e p h. graph.recording.within e p h;
    }
