use Rattle.std.proofs.Common.{arith}
use Rattle.std.proofs.lemmas.Str.Pattern.{strip_suffix_char}
use Rattle.tools.proofs.found.without_mark.Goals as goal

pub returns : goal.returns
returns c = strip_suffix_char 94 c.args.path.now c.strip_suffix.result c.strip_suffix.ensures.cases (omega arith)
