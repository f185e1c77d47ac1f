use Rattle.std.proofs.Common.{◌≡◌, ◌∙◌, ap, length, drop, false, true}
use Rattle.model.specs.declared.event.Event.TheVariants.{Finish}
use Rattle.model.specs.World.{runs}
use Rattle.sim.specs.Jobs.{Told}
use Rattle.sim.proofs.Listed.{listed_finish, found_listed, longer_by, room_end, room_for_end, one_more}
use Rattle.sim.proofs.jobs.Jobs.finish.Goals as goal

pub push_reserved-requires : goal.push_reserved-requires
push_reserved-requires c =
    let runs_on : c.self.inside.stopped ≡ false = ap (λ (t : Told). t.stopped) c.self.view_is ∙ c.requires.0 in
    let live : runs c.args.job (drop c.self.inside.before c.self.inside.events.items) ≡ true = ap (λ (t : Told). runs c.args.job t.events) c.self.view_is ∙ c.requires.1 in
    room_for_end (length c.self.inside.events.items) (length c.self.inside.running.entries) (length c.remove.new.self.entries) _ _
    (found_listed c.args.job c.remove.result c.self.inside.running.entries (drop c.self.inside.before c.self.inside.events.items) c.remove.ensures.value (c.self.invariant.runs runs_on c.args.job) live) c.self.invariant.room c.remove.ensures.len

pub invariant_of-self : goal.invariant_of-self
invariant_of-self c =
    let runs_on : c.self.inside.stopped ≡ false = ap (λ (t : Told). t.stopped) c.self.view_is ∙ c.requires.0 in
    let live : runs c.args.job (drop c.self.inside.before c.self.inside.events.items) ≡ true = ap (λ (t : Told). runs c.args.job t.events) c.self.view_is ∙ c.requires.1 in
    record {
      restart = longer_by c.self.inside.before c.self.inside.events.items c.push_reserved.new.events.items (Finish c.args.job c.args.ok) c.self.invariant.restart c.push_reserved.ensures.items;
      room = room_end (length c.self.inside.events.items) (length c.push_reserved.new.events.items) (length c.self.inside.running.entries) (length c.remove.new.self.entries) _ _ _
          (found_listed c.args.job c.remove.result c.self.inside.running.entries (drop c.self.inside.before c.self.inside.events.items) c.remove.ensures.value (c.self.invariant.runs runs_on c.args.job) live)
          c.self.invariant.room c.push_reserved.ensures.grows (one_more c.self.inside.events.items c.push_reserved.new.events.items (Finish c.args.job c.args.ok) c.push_reserved.ensures.items) c.remove.ensures.len;
      runs = λ still job. listed_finish c.args.job job c.self.inside.before c.args.ok c.self.inside.events.items c.push_reserved.new.events.items c.self.inside.running.entries c.remove.new.self.entries c.self.invariant.restart c.push_reserved.ensures.items (c.remove.ensures.updates.0 job) (c.self.invariant.runs runs_on job);
    }
