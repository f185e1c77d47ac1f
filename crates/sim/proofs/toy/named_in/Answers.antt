use Rattle.sim.proofs.Naming.{text_names, no_text_names}
use Rattle.sim.proofs.toy.named_in.Goals as goal

pub returns-in-Err : goal.returns-in-Err
returns-in-Err c = no_text_names c.args.content.now c.in-Err.ensures.cases.0

pub returns-in_ok-named-in-Ok : goal.returns-in_ok-named-in-Ok
returns-in_ok-named-in-Ok c = text_names c.args.content.now c.in-Ok.text.now _ c.in-Ok.ensures.cases.0 c.in-Ok.ensures.cases.1 c.in_ok-named-in-Ok.ensures
