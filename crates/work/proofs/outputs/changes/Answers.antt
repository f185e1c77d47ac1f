use Rattle.std.proofs.Common.{ℕ, List, ◌∙◌, ap}
use Rattle.model.specs.Graph.{has_number}
use Rattle.work.proofs.Comparing.{outputs_forgotten}
use Rattle.work.proofs.outputs.changes.Goals as goal

pub returns-clause-anew : goal.returns-clause-anew
returns-clause-anew g c = record {
  between = c.forget.new.self;
  forgets = outputs_forgotten c.args.graph.now c.args.edge c.outputs-outputs.result.now c.args.looks.now c.forget.new.self c.outputs-outputs.ensures c.forget.ensures.forgotten c.forget.ensures.others c.forget.ensures.fits;
  looked = c.ask.ensures.looked;
  asked = λ p made. c.in_ok-ask.ensures.asked p (ap (λ (l : List ℕ). has_number l p) c.outputs-outputs.ensures ∙ made);
}
