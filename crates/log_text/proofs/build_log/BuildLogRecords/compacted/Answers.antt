use Rattle.std.proofs.Common.{◌<◌, ℕ, sym, subst, length}
use Rattle.log_text.specs.Kept.{IsTableOf, tellings}
use Rattle.log_text.proofs.InForce.{next_written}
use Rattle.log_text.proofs.build_log.BuildLogRecords.compacted.Goals as goal

pub loop-number-preserved : goal.loop-number-preserved
loop-number-preserved c = λ all is.
    let count = c.tellings-number-end.ensures all (subst (IsTableOf all) (sym c.self.view_is) is) in
    let within : c.loop-number.number < length (tellings all) = subst (λ (n : ℕ). c.loop-number.number < n) count c.loop-number-test.true in
    next_written all c.loop-number.number c.loop-number.text.items c.push_in_force.new.text.items within (c.loop-number.invariant all is) (c.in_ok-push_in_force.ensures all is)
