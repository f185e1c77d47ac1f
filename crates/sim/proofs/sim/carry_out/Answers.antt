use Rattle.std.proofs.Common.{◌∙◌, ℕ, sym, ap, List}
use Rattle.std.specs.Ordering.{nat_cmp}
use Rattle.std.specs.BTreeMap.{is_at}
use Rattle.model.specs.World.{IsRunning}
use Rattle.sim.specs.declared.jobs.Running.{Running}
use Rattle.sim.specs.Jobs.{running_at}
use Rattle.sim.specs.Sim.{carried}
use Rattle.sim.proofs.Listed.{kept}
use Rattle.sim.proofs.Work.{others_then}
use Rattle.sim.proofs.sim.carry_out.Goals as goal

pub loop-job-preserved : goal.loop-job-preserved
loop-job-preserved g c = record {
  left = λ job one is. c.loop-job.invariant.left job one (kept (is_at (nat_cmp c.in-Some.job) job) (running_at job c.loop-job.running.entries) (running_at job c.pop_first.new.self.entries) one (c.in-Some.ensures.updates.0 job) is);
  others = λ events live. others_then (IsRunning events) c.args.history.now c.loop-job.history c.work_off-worked.new.history (c.loop-job.invariant.others events live)
      (c.work_off-worked.ensures.others events (live c.in-Some.job c.in-Some.one (c.loop-job.invariant.left c.in-Some.job c.in-Some.one c.in-Some.ensures.value)));
  done = λ whole. ap (carried g.C.Commands.outcome c.pop_first.new.self.entries) (c.work_off-worked.ensures.done (c.both-complete.ensures.other whole))
      ∙ ap (λ (es : List (ℕ × Running)). carried g.C.Commands.outcome es c.loop-job.history) (sym c.in-Some.ensures.removal)
      ∙ c.loop-job.invariant.done (c.both-complete.ensures.one whole);
}

pub loop-job-preserved-in-Some : goal.loop-job-preserved-in-Some
loop-job-preserved-in-Some g c = record {
  left = λ job one is. c.loop-job.invariant.left job one (kept (is_at (nat_cmp c.in-Some.job) job) (running_at job c.loop-job.running.entries) (running_at job c.pop_first.new.self.entries) one (c.in-Some.ensures.updates.0 job) is);
  others = λ events live. others_then (IsRunning events) c.args.history.now c.loop-job.history c.work_off-worked.new.history (c.loop-job.invariant.others events live)
      (c.work_off-worked.ensures.others events (live c.in-Some.job c.in-Some.one (c.loop-job.invariant.left c.in-Some.job c.in-Some.one c.in-Some.ensures.value)));
  done = λ whole. ap (carried g.C.Commands.outcome c.pop_first.new.self.entries) (c.work_off-worked.ensures.done (c.both-complete.ensures.other whole))
      ∙ ap (λ (es : List (ℕ × Running)). carried g.C.Commands.outcome es c.loop-job.history) (sym c.in-Some.ensures.removal)
      ∙ c.loop-job.invariant.done (c.both-complete.ensures.one whole);
}
