use Rattle.std.proofs.Common.{◌<◌, get_or, arith}
use Rattle.std.proofs.lemmas.Str.{IsCharBoundary-after_ascii}
use Rattle.std.proofs.lemmas.Bool.Decides.{nat_tests}
use Rattle.lexer.proofs.characters.split_quoted.Goals as goal

pub split_at-requires : goal.split_at-requires
split_at-requires c =
    let ascii : get_or c.args.text.now 0 0 < 128 = grind (arith, nat_tests) in
    IsCharBoundary-after_ascii c.args.text.now 0 c.utf8.text (omega arith) ascii
