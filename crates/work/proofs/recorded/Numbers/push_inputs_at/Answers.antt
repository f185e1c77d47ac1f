use Rattle.std.proofs.Common.{List, ℕ, Option, Some, None, get_or, sym, ◌∙◌, ap, append-nil, Bor}
use Rattle.std.specs.Option.{option_copied, option_map}
use Rattle.log_text.specs.declared.deps.Deps.{Deps}
use Rattle.log_text.specs.DepsLog.{told_in}
use Rattle.graph.specs.Links.{links_of}
use Rattle.work.specs.Recorded.{texts_of}
use Rattle.work.proofs.Joining.{named_too, adds_nothing}
use Rattle.work.proofs.Numbering.{just_as, just_is}
use Rattle.work.proofs.recorded.Numbers.push_inputs_at.Goals as goal

pub returns-then-is_shared-clause-inputs : goal.returns-then-is_shared-clause-inputs
returns-then-is_shared-clause-inputs c paths rs ds of are just =
    let outputs = (links_of c.args.graph.now).outputs c.args.edge in
    just_as c.args.graph.now c.args.inputs.now _ _ (adds_nothing paths outputs rs ds c.args.records.now of c.args.place c.requires.place (c.is_shared.ensures c.if-is_shared.true)) just

pub returns-in_default-clause-inputs : goal.returns-in_default-clause-inputs
returns-in_default-clause-inputs c paths rs ds of are just =
    let outputs = (links_of c.args.graph.now).outputs c.args.edge in
    let output = c.index-outputs-place.result in
    let texts = texts_of c.args.records.now in
    just_is c.args.graph.now c.args.inputs.now _ _
    (sym (append-nil _)
    ∙ named_too paths outputs rs ds c.args.records.now of c.args.place output c.requires.place (c.index-outputs-place.is ∙ ap (λ (ns : List ℕ). get_or ns c.args.place output) c.outputs.ensures) None
    (λ lt. sym (ap (λ (d : Option (Bor Deps)). option_map (told_in texts) (option_copied d)) c.in_default.is) ∙ c.deps.ensures.told ds of.first of.told lt))
    just

pub returns-clause-inputs : goal.returns-clause-inputs
returns-clause-inputs c paths rs ds of are just =
    let outputs = (links_of c.args.graph.now).outputs c.args.edge in
    let output = c.index-outputs-place.result in
    let texts = texts_of c.args.records.now in
    just_is c.push_inputs.new.graph c.push_inputs.new.inputs _ _
    (named_too paths outputs rs ds c.args.records.now of c.args.place output c.requires.place (c.index-outputs-place.is ∙ ap (λ (ns : List ℕ). get_or ns c.args.place output) c.outputs.ensures) (Some (told_in texts c.in-Some.deps.now))
    (λ lt. sym (ap (λ (d : Option (Bor Deps)). option_map (told_in texts) (option_copied d)) c.in-Some.is) ∙ c.deps.ensures.told ds of.first of.told lt))
    (c.in_ok-push_inputs.ensures.inputs _ are just)
