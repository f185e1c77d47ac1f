use Rattle.std.proofs.Common.{arith, ap, ◌∙◌}
use Rattle.host.specs.Inside.{times}
use Rattle.host.proofs.Listed.{as_many}
use Rattle.host.proofs.jobs.Jobs.some_go_on.Goals as goal

pub invariant_of-self : goal.invariant_of-self
invariant_of-self c = record {
  restart = c.self.invariant.restart;
  room =
      let room = c.self.invariant.room in
      let same = as_many c.self.inside.commands.items c.some_runs.new.commands.items c.some_runs.ensures.jobs in
      omega (arith, room, same);
  listed = λ job. ap (times job) c.some_runs.ensures.jobs ∙ c.self.invariant.listed job;
}
