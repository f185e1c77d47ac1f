use Rattle.std.proofs.Common.{◌∙◌, sym, ap}
use Rattle.sim.specs.History.{with_write}
use Rattle.sim.proofs.Views.{with_writes-push, longer_with}
use Rattle.sim.proofs.history.append_writes.Goals as goal

pub loop-write-preserved : goal.loop-write-preserved
loop-write-preserved c = record {
  written = c.in_ok-leave.ensures.ok ∙ ap (with_write c.args.job c.in-Some.write) c.loop-write.invariant.written ∙ sym (with_writes-push c.args.job c.loop-write.yielded c.in-Some.write c.args.moments.now);
  longer = longer_with c.args.job c.in-Some.write c.args.moments.now c.loop-write.moments c.leave.new.moments c.loop-write.invariant.longer c.in_ok-leave.ensures.ok;
  clocked = c.in_ok-leave.ensures.stamp;
}
