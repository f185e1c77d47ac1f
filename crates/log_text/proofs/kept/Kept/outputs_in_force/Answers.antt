use Rattle.std.proofs.Common.{sym, ap, ◌∙◌, map}
use Rattle.log_text.specs.Kept.{left_to, tellings}
use Rattle.log_text.proofs.Lookups.{outputs_past, left_from, left_once, left_distinct}
use Rattle.log_text.proofs.kept.Kept.outputs_in_force.Goals as goal

pub returns-in-Some-clause-left : goal.returns-in-Some-clause-left
returns-in-Some-clause-left g c =
    let numbers = c.as_slice.ensures ∙ ap (λ v. v.0) c.told.view_is in
    let left = rw numbers at c.texts_in_force.ensures in
    left_from c.texts_in_force.result c.args.self.now c.args.place c.in-Some.told.now (sym c.in-Some.ensures) left

pub returns-in-Some-clause-once : goal.returns-in-Some-clause-once
returns-in-Some-clause-once g c =
    let numbers = c.as_slice.ensures ∙ ap (λ v. v.0) c.told.view_is in
    let left = rw numbers at c.texts_in_force.ensures in
    left_once c.texts_in_force.result c.args.self.now c.args.place (left_from c.texts_in_force.result c.args.self.now c.args.place c.in-Some.told.now (sym c.in-Some.ensures) left)

pub returns-in-None-clause-left : goal.returns-in-None-clause-left
returns-in-None-clause-left g c = λ all is. ap (map (λ o. o.now)) c.new.ensures.items ∙ ap (left_to all c.args.place) (sym (outputs_past c.args.self.now.outputs c.args.self.now.told (tellings all) c.args.place is.told (sym c.in-None.ensures)))

pub returns-in-None-clause-once : goal.returns-in-None-clause-once
returns-in-None-clause-once g c = λ all is. left_distinct all c.args.self.now c.args.place _ is (ap (map (λ o. o.now)) c.new.ensures.items ∙ ap (left_to all c.args.place) (sym (outputs_past c.args.self.now.outputs c.args.self.now.told (tellings all) c.args.place is.told (sym c.in-None.ensures))))
