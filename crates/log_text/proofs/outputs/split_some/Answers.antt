use Rattle.std.proofs.Common.{sym}
use Rattle.std.proofs.lemmas.Bool.{eqb-true}
use Rattle.log_text.proofs.Parts.{not_empty}
use Rattle.log_text.proofs.outputs.split_some.Goals as goal

pub returns-then-is_empty-clause-none : goal.returns-then-is_empty-clause-none
returns-then-is_empty-clause-none c = λ outputs after room e.
    let found = c.in_ok-outputs.ensures.found in
    not_empty c.args.fields.now c.in_ok-outputs.outputs.now c.in_ok-outputs.after.now outputs after found.0 found.1 (eqb-true _ 0 (sym c.if-is_empty.ensures)) room e
