use Rattle.std.proofs.Common.{◌∙◌, [], sym, ap}
use Rattle.std.specs.Option.{option_copied}
use Rattle.std.proofs.lemmas.Option.{get_or_from_slice_get}
use Rattle.graph.proofs.Beside.{output_is, no_output}
use Rattle.graph.proofs.Parts.{if_ok_then}
use Rattle.graph.proofs.side_files.output_of.Goals as goal

pub text-requires : goal.text-requires
text-requires c = (output_is c.args.manifest.now c.args.edge c.in-Some.output.now c.outputs.result.now c.outputs.ensures (sym (ap option_copied c.in-Some.is) ∙ c.first.ensures.value)).0

pub returns-in-Some : goal.returns-in-Some
returns-in-Some c =
    let first = output_is c.args.manifest.now c.args.edge c.in-Some.output.now c.outputs.result.now c.outputs.ensures (sym (ap option_copied c.in-Some.is) ∙ c.first.ensures.value) in
    if_ok_then c.from_str.result c.from_str.ensures (λ path is. is ∙ (sym (get_or_from_slice_get c.args.manifest.now.paths c.in-Some.output.now c.text.result.now [] c.text.ensures) ∙ first.1))

pub returns-in-None : goal.returns-in-None
returns-in-None c = c.new.ensures ∙ no_output c.args.manifest.now c.args.edge c.outputs.result.now c.outputs.ensures (sym (ap option_copied c.in-None.is) ∙ c.first.ensures.value)
