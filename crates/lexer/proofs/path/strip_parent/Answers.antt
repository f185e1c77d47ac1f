use Rattle.std.proofs.Common.{◌<◌, get_or, arith}
use Rattle.std.proofs.lemmas.Str.{IsCharBoundary-after_ascii}
use Rattle.std.proofs.lemmas.Bool.Decides.{nat_tests}
use Rattle.lexer.proofs.path.strip_parent.Goals as goal

pub range_from-requires : goal.range_from-requires
range_from-requires c =
    let ascii : get_or c.args.path.now 2 0 < 128 = grind (arith, nat_tests) in
    λ _. IsCharBoundary-after_ascii c.args.path.now 2 c.utf8.path (omega arith) ascii
