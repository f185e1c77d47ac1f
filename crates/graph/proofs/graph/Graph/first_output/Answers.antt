use Rattle.std.proofs.Common.{◌∙◌, sym, ap}
use Rattle.std.specs.Option.{option_copied}
use Rattle.graph.proofs.Choosing.{first_text, no_first}
use Rattle.graph.proofs.Parts.{if_ok_then}
use Rattle.graph.proofs.graph.Graph.first_output.Goals as goal

pub text-requires : goal.text-requires
text-requires c = (first_text c.args.self.now c.args.edge c.in-Some.output.now c.outputs.result.now c.outputs.ensures (sym (ap option_copied c.in-Some.is) ∙ c.first.ensures.value)).0

pub returns-in-Some : goal.returns-in-Some
returns-in-Some c =
    let first = first_text c.args.self.now c.args.edge c.in-Some.output.now c.outputs.result.now c.outputs.ensures (sym (ap option_copied c.in-Some.is) ∙ c.first.ensures.value) in
    if_ok_then c.from_str.result c.from_str.ensures (λ path is. is ∙ (c.text.ensures ∙ first.1))

pub returns-in-None : goal.returns-in-None
returns-in-None c = c.new.ensures ∙ no_first c.args.self.now c.args.edge c.outputs.result.now c.outputs.ensures (sym (ap option_copied c.in-None.is) ∙ c.first.ensures.value)
