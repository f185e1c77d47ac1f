use Rattle.std.proofs.Common.{map, string_bytes, ap, ◌∙◌}
use Rattle.std.specs.List.{flat_map}
use Rattle.tools.specs.Answers.{quoted_inputs}
use Rattle.tools.proofs.Putting.{if_ok_then}
use Rattle.tools.proofs.Quoting.{inputs_printed}
use Rattle.tools.proofs.named_inputs.inputs.Goals as goal

pub returns : goal.returns
returns c =
    let declared = c.args.declared.now in
    let edges = c.in_ok-edges.edges.items in
    let are = c.in_ok-texts.ensures ∙ (ap (map string_bytes) c.as_slice-2.ensures.value ∙ (c.in_ok-words.ensures ∙ ap (flat_map (quoted_inputs declared)) c.as_slice.ensures.value)) in
    if_ok_then c.sorted_lines.result c.sorted_lines.ensures (λ told prints. inputs_printed declared c.args.paths.now edges _ (string_bytes told) c.in_ok-edges.ensures are prints)
