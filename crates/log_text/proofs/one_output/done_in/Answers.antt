use Rattle.log_text.specs.OneOutput.{IsActIn}
use Rattle.log_text.proofs.Notes.{at_some}
use Rattle.log_text.proofs.OneOutputLines.{done_is}
use Rattle.log_text.proofs.one_output.done_in.Goals as goal

pub returns : goal.returns
returns c =
    let number = c.in-Some.ensures in
    let act = at_some (IsActIn c.in-Some.fields.now) c.in_ok-act.field-0 c.in-Some-2.act c.in-Some-2.is c.in_ok-act.ensures in
    done_is c.args.told.now c.in-Some.fields.now c.in-Some.start c.in-Some-2.act number.number number.utf8 number.low act
