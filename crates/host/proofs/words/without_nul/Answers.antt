use Rattle.std.proofs.Common.{subst, take_all}
use Rattle.os.specs.Paths.{HasNoNul}
use Rattle.host.proofs.words.without_nul.Goals as goal

pub returns : goal.returns
returns c =
    let whole = take_all c.name_length.result c.args.word.now c.if-name_length-word.false in
    subst HasNoNul whole c.name_length.ensures.no_nul
