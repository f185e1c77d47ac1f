use Rattle.std.proofs.Common.{◌∙◌, length, sym, arith}
use Rattle.std.proofs.lemmas.Str.{IsCharBoundary-after_ascii}
use Rattle.audit.proofs.Parts.{slash_behind}
use Rattle.audit.proofs.below.behind.Goals as goal

pub range_from-requires : goal.range_from-requires
range_from-requires c =
    let path = c.args.path.now in
    let folder = c.args.folder.now in
    let there = slash_behind folder path (sym c.is_below.ensures ∙ c.if-is_below.true) in
    λ _. IsCharBoundary-after_ascii path (length folder) c.utf8.path there.0 (omega (arith, there.1))
