use Rattle.std.proofs.Common.{◌∙◌, sym}
use Rattle.seen.proofs.Folders.{file_below, if_ok_then}
use Rattle.seen.proofs.names.within.Goals as goal

pub returns-in_default : goal.returns-in_default
returns-in_default c =
    let named = file_below c.args.folder.now c.args.name.now c.in_default.not-empty c.in_default.not-text in
    if_ok_then c.format-in_default.result c.format-in_default.ensures.ok (λ path is. is ∙ sym named)
