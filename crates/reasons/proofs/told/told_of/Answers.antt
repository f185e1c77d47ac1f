use Rattle.std.proofs.Common.{◌≡◌, ◌||◌, ℕ, Option, is_some, sym, ◌∙◌, ap}
use Rattle.model.specs.declared.act.Act.{Act}
use Rattle.model.specs.declared.graph.Edge.{Edge}
use Rattle.reasons.specs.Why.{told_reason, act_of}
use Rattle.reasons.proofs.Telling.{outputs_as, path_as}
use Rattle.reasons.proofs.told.told_of.Goals as goal

pub returns-clause-told : goal.returns-clause-told
returns-clause-told c =
    let graph = c.args.graph.now in
    let seen = c.args.looks.now.seen.items in
    let act : Act = c.command_of-command.result.now.act in
    let act_is : act_of graph c.args.edge ≡ act = ap (λ (edge : Edge). edge.act) c.command_of-command.ensures in
    record {
      outputs = c.summary_of-summary.result;
      are = outputs_as graph c.args.records.now seen c.args.edge act (sym act_is) c.outputs-outputs.result.now c.outputs-outputs.ensures c.summary_of-summary.result c.summary_of-summary.ensures;
      reason = c.told_reason-reason.ensures ∙ ap (λ (o : Option ℕ). told_reason c.args.found (is_some o)) c.first_input-anew.ensures;
      path = path_as graph c.args.records.now seen c.args.edge act (sym act_is) c.outputs-outputs.result.now c.outputs-outputs.ensures c.summary_of-summary.result c.args.flags.now c.told_reason-reason.result c.args.edges.now
          c.first_output-made.result c.first_input-read.result _ c.first_output-made.ensures c.first_input-read.ensures c.first_found.ensures;
      sure = c.is_sure.ensures ∙ ap (λ (o : Option ℕ). is_some c.args.found || is_some o) c.first_input-sure.ensures;
    }
