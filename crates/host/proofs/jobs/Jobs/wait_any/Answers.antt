use Rattle.std.proofs.Common.{arith, ◌≡◌, ◌+◌, ◌∙◌, sym, ap, cond, ℕ, ◌==◌, drop, true}
use Rattle.model.specs.World.{runs}
use Rattle.host.specs.Inside.{times}
use Rattle.host.specs.Process.{jobs_of}
use Rattle.host.specs.Told.{Told}
use Rattle.host.proofs.Listed.{as_many, taken, listed_finish, listed_runs, since_push, longer_by, one_more}
use Rattle.host.proofs.jobs.Jobs.wait_any.Given as given
use Rattle.host.proofs.jobs.Jobs.wait_any.Goals as goal

-- the command that ended was taken out, and no other
gone : (g : given.Over) (c : goal.After-push_reserved g) (other : ℕ) → times other (jobs_of c.swap_remove-command.new.self.items) + cond (c.end-job.result.job == other) 1 0 ≡ times other (jobs_of c.self.inside.commands.items)
gone g c other =
    taken c.end-job.result.job other c.in_ok-place.place c.swap_remove-command.result c.self.inside.commands.items c.wait_first.new.commands.items c.swap_remove-command.new.self.items
    c.in_ok-place.ensures.ended.0 c.swap_remove-command.ensures.value c.swap_remove-command.ensures.items c.in_ok-place.ensures.jobs c.end-job.ensures.job

pub invariant_of-self-2 : goal.invariant_of-self-2
invariant_of-self-2 g c = record {
  restart = longer_by c.self.inside.before c.self.inside.events.items c.push_reserved.new.items.items _ c.self.invariant.restart c.push_reserved.ensures.items;
  room =
      let room = c.self.invariant.room in
      let same = as_many c.self.inside.commands.items c.wait_first.new.commands.items c.in_ok-place.ensures.jobs in
      let gone = c.swap_remove-command.ensures.len in
      let grows = c.push_reserved.ensures.grows in
      let told = one_more c.self.inside.events.items c.push_reserved.new.items.items _ c.push_reserved.ensures.items in
      omega (arith, room, same, gone, grows, told);
  listed = listed_finish c.end-job.result.job c.end-job.result.ok (jobs_of c.self.inside.commands.items) (jobs_of c.swap_remove-command.new.self.items) (drop c.self.inside.before c.self.inside.events.items) (drop c.self.inside.before c.push_reserved.new.items.items)
      (gone g c)
      (since_push c.self.inside.before c.self.inside.events.items c.push_reserved.new.items.items _ c.self.invariant.restart c.push_reserved.ensures.items) c.self.invariant.listed;
}

pub returns-clause-ran : goal.returns-clause-ran
returns-clause-ran g c =
    let ran : runs c.end-job.result.job (drop c.self.inside.before c.self.inside.events.items) ≡ true = listed_runs c.end-job.result.job (jobs_of c.self.inside.commands.items) (jobs_of c.swap_remove-command.new.self.items) (drop c.self.inside.before c.self.inside.events.items) (gone g c c.end-job.result.job) (c.self.invariant.listed c.end-job.result.job) in
    sym (ap (λ (t : Told). runs c.end-job.result.job t.events) c.self.view_is) ∙ ran
