use Rattle.std.proofs.Common.{◌∷◌, [], arith}
use Rattle.log_text.proofs.Notes.{at_some, taken_one}
use Rattle.log_text.proofs.kept.Kept.take_few.Goals as goal

pub returns-in_ok-push-in-Ok-Some-clause-taken : goal.returns-in_ok-push-in-Ok-Some-clause-taken
returns-in_ok-push-in-Ok-Some-clause-taken g c =
    let number = c.in-Ok-Some.number in
    let after = c.in-Ok-Some.after in
    let found = at_some _ c.in-Ok-Some.field-0 (number, after) c.in-Ok-Some.field-0-is c.in-Ok-Some.ensures.taken in
    record {
      more = number ∷ [];
      pushed = c.in_ok-push-in-Ok-Some.ensures.items;
      some = omega arith;
      few = c.requires.most;
      taken = taken_one c.take_known.new.self c.args.bytes.now number found.0 after.now found.1 found.2 found.3;
    }
