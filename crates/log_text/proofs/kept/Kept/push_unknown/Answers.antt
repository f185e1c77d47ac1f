use Rattle.std.proofs.Common.{◌∷◌, [], arith}
use Rattle.log_text.proofs.Notes.{at_some, taken_one}
use Rattle.log_text.proofs.kept.Kept.push_unknown.Goals as goal

pub returns-clause-taken : goal.returns-clause-taken
returns-clause-taken g c =
    let number = c.in-Some.number in
    let after = c.in-Some.after in
    let found = at_some _ c.in_ok-number.field-0 (number, after) c.in-Some.is c.in_ok-number.ensures.number in
    record {
      more = number ∷ [];
      pushed = c.in_ok-push.ensures.items;
      some = omega arith;
      few = omega arith;
      taken = taken_one c.take_unknown.new.self.outputs c.args.bytes.now number found.0 after.now found.1 found.2 found.3;
    }
