use Rattle.std.specs.Str.Parse.{ParsesUnsigned, ExplainsUnsignedError, HasUnsignedDigitsIfOk}
use Rattle.clap.specs.Words.{found_of, one_text}
use Rattle.clap.proofs.WalkLemmas.{one_text-rows}
use Rattle.nj_run.proofs.Values.{number_is}
use Rattle.nj_run.proofs.command.number.Goals as goal

pub returns : goal.returns
returns c =
    let found = found_of c.args.matches.now in
    let is = number_is (λ bs r. ParsesUnsigned 32 10 bs r × ExplainsUnsignedError 10 bs r × HasUnsignedDigitsIfOk bs r) (one_text found c.args.id.now) c.args.default c.get_one.result (λ u x g. g.0) c.get_one.ensures.none c.get_one.ensures.value in
    rw (c.unwrap_or.ensures, ← one_text-rows found c.args.id.now) is
