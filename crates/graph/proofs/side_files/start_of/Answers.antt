use Rattle.std.proofs.Common.{◌∙◌, sym}
use Rattle.graph.proofs.Beside.{start_below}
use Rattle.graph.proofs.Parts.{if_ok_then}
use Rattle.graph.proofs.side_files.start_of.Goals as goal

pub returns-in_default : goal.returns-in_default
returns-in_default c =
    let below = start_below c.args.folder.now c.in_default.not-empty c.in_default.not-text in
    if_ok_then c.format.result c.format.ensures.ok (λ start is. is ∙ sym below)
