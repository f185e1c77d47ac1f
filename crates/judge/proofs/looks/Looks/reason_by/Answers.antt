use Rattle.std.proofs.Common.{List, ℕ, length, ap, subst, sym, ◌∙◌}
use Rattle.model.specs.declared.graph.Edge.{Edge}
use Rattle.graph.specs.Links.{links_of}
use Rattle.judge.specs.declared.sums.Sums.{Sums}
use Rattle.judge.specs.Answers.{AreMadeSeen, IsReasonWith, IsStaleWith}
use Rattle.judge.proofs.Answered.{made_stays}
use Rattle.judge.proofs.LooksStay.{looked_then}
use Rattle.judge.proofs.Reasons.{within_by}
use Rattle.judge.proofs.Summing.{sums_kept, marks_kept}
use Rattle.judge.proofs.looks.Looks.reason_by.Goals as goal

pub outputs_of-requires-clause-within : goal.outputs_of-requires-clause-within
outputs_of-requires-clause-within g c =
    let graph = c.args.graph.now in
    within_by (length graph.manifest.paths) ((links_of graph).outputs c.args.asked.edge) c.outputs.result.now c.outputs.ensures (c.lists_stand.ensures.outputs_within c.args.asked.edge)

pub returns-in_err-outputs-clause-summed : goal.returns-in_err-outputs-clause-summed
returns-in_err-outputs-clause-summed g c = sums_kept c.args.graph.now c.args.changed.now c.args.self.now.seen.items c.outputs_of.new.self.seen.items c.outputs_of.ensures.looked.stays c.args.self.now.sums c.outputs_of.new.self.sums c.outputs_of.ensures.sums c.requires.summed

pub inputs_of-requires-clause-summed : goal.inputs_of-requires-clause-summed
inputs_of-requires-clause-summed g c = sums_kept c.args.graph.now c.args.changed.now c.args.self.now.seen.items c.outputs_of.new.self.seen.items c.outputs_of.ensures.looked.stays c.args.self.now.sums c.outputs_of.new.self.sums c.outputs_of.ensures.sums c.requires.summed

pub returns-in_err-outputs-clause-marked : goal.returns-in_err-outputs-clause-marked
returns-in_err-outputs-clause-marked g c = marks_kept c.args.graph.now c.args.changed.now c.args.self.now.seen.items c.outputs_of.new.self.seen.items c.outputs_of.ensures.looked.stays c.args.self.now.sums c.outputs_of.new.self.sums c.outputs_of.ensures.sums

pub returns-in_err-inputs-clause-marked : goal.returns-in_err-inputs-clause-marked
returns-in_err-inputs-clause-marked g c marked =
    c.inputs_of.ensures.marked (marks_kept c.args.graph.now c.args.changed.now c.args.self.now.seen.items c.outputs_of.new.self.seen.items c.outputs_of.ensures.looked.stays c.args.self.now.sums c.outputs_of.new.self.sums c.outputs_of.ensures.sums marked)

pub returns-clause-marked : goal.returns-clause-marked
returns-clause-marked g c marked =
    c.inputs_of.ensures.marked (marks_kept c.args.graph.now c.args.changed.now c.args.self.now.seen.items c.outputs_of.new.self.seen.items c.outputs_of.ensures.looked.stays c.args.self.now.sums c.outputs_of.new.self.sums c.outputs_of.ensures.sums marked)

pub returns-in_err-outputs-clause-answers : goal.returns-in_err-outputs-clause-answers
returns-in_err-outputs-clause-answers g c = ap (λ (s : Sums). s.answers) c.outputs_of.ensures.sums

pub returns-in_err-inputs-clause-answers : goal.returns-in_err-inputs-clause-answers
returns-in_err-inputs-clause-answers g c = c.inputs_of.ensures.answers ∙ ap (λ (s : Sums). s.answers) c.outputs_of.ensures.sums

pub returns-clause-answers : goal.returns-clause-answers
returns-clause-answers g c = c.inputs_of.ensures.answers ∙ ap (λ (s : Sums). s.answers) c.outputs_of.ensures.sums

pub returns-in_err-inputs-clause-looked : goal.returns-in_err-inputs-clause-looked
returns-in_err-inputs-clause-looked g c =
    looked_then g.S.Texts.tells c.args.graph.now (g.S.Texts.world c.args.site.now) (g.S.Texts.world c.outputs_of.new.site) (g.S.Texts.world c.inputs_of.new.site) c.args.self.now c.outputs_of.new.self c.inputs_of.new.self
    c.outputs_of.ensures.looked c.inputs_of.ensures.looked

pub returns-clause-looked : goal.returns-clause-looked
returns-clause-looked g c =
    looked_then g.S.Texts.tells c.args.graph.now (g.S.Texts.world c.args.site.now) (g.S.Texts.world c.outputs_of.new.site) (g.S.Texts.world c.inputs_of.new.site) c.args.self.now c.outputs_of.new.self c.inputs_of.new.self
    c.outputs_of.ensures.looked c.inputs_of.ensures.looked

-- the table judges by what was seen, in the words of the edge
pub returns-clause-reason : goal.returns-clause-reason
returns-clause-reason g c =
    let graph = c.args.graph.now in
    let seen = c.inputs_of.new.self.seen.items in
    let does = c.command_of-command.ensures in
    let depfile = c.args.asked.depfile in
    let made =
    subst (λ (l : List ℕ). AreMadeSeen graph c.args.records.now c.command_of-command.result.now.act c.outputs_of.new.self.seen.items l c.in_ok-outputs.outputs) c.outputs.ensures c.in_ok-outputs.ensures.outputs in
    record {
      outputs = c.in_ok-outputs.outputs;
      inputs = c.in_ok-inputs.inputs;
      made =
          subst (λ (edge : Edge). AreMadeSeen graph c.args.records.now edge.act seen ((links_of graph).outputs c.args.asked.edge) c.in_ok-outputs.outputs) (sym does)
          (made_stays graph c.args.records.now c.outputs_of.new.self.seen.items seen c.inputs_of.ensures.looked.stays c.command_of-command.result.now.act ((links_of graph).outputs c.args.asked.edge) c.in_ok-outputs.outputs made);
      read = c.in_ok-inputs.ensures.inputs;
      told = subst (λ (edge : Edge). IsReasonWith edge depfile c.in_ok-outputs.outputs c.in_ok-inputs.inputs c.judge.result) (sym does) c.judge.ensures.reason;
      stale = subst (λ (edge : Edge). IsStaleWith edge depfile c.in_ok-outputs.outputs c.judge.result) (sym does) c.judge.ensures.stale;
    }
