use Rattle.std.proofs.Common.{true, Option, ℕ, sym, ◌∙◌, ap}
use Rattle.graph.specs.Links.{links_of}
use Rattle.std.specs.Option.{option_or}
use Rattle.reasons.specs.Why.{first_of}
use Rattle.reasons.proofs.inputs.first_input.Goals as goal

pub returns-in-Some : goal.returns-in-Some
returns-in-Some c =
    ap (λ (o : Option ℕ). option_or o (first_of (links_of c.args.graph.now) c.args.anew.now c.args.looks.now.seen.items c.args.outputs c.args.reason true ((links_of c.args.graph.now).recorded c.args.edge))) (sym c.in-Some.is ∙ c.first_read.ensures)

pub returns-in-None : goal.returns-in-None
returns-in-None c =
    let links = links_of c.args.graph.now in
    c.first_of.ensures ∙ (ap (first_of links c.args.anew.now c.args.looks.now.seen.items c.args.outputs c.args.reason true) c.recorded_inputs-recorded.ensures
    ∙ ap (λ (o : Option ℕ). option_or o (first_of links c.args.anew.now c.args.looks.now.seen.items c.args.outputs c.args.reason true (links.recorded c.args.edge))) (sym c.in-None.is ∙ c.first_read.ensures))
