use Rattle.std.proofs.Common.{◌<◌, length, rules}
use Rattle.log_text.proofs.Lookups.{named_push}
use Rattle.log_text.proofs.kept.Kept.push_record.Goals as goal

pub returns-in_ok-push-in-Some-clause-named : goal.returns-in_ok-push-in-Some-clause-named
returns-in_ok-push-in-Some-clause-named g c = λ all is are.
    let some : 0 < length c.in_ok-outputs.outputs.items = search rules in
    rw c.in_ok-push-in-Some.ensures.items (named_push c.args.found.now.items c.from_vec.result c.in_ok-outputs.outputs.items c.in-Some.told c.from_vec.ensures some (c.in_ok-outputs.ensures.once all is) are)
