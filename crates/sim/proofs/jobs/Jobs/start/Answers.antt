use Rattle.std.proofs.Common.{◌≡◌, ◌∙◌, ◌≤◌, sym, ap, subst, ◌++◌, ◌∷◌, [], List, ℕ, false, length, drop, option_map}
use Rattle.model.specs.declared.event.Event.TheVariants.{Start}
use Rattle.model.specs.declared.event.Event.{Event}
use Rattle.model.specs.World.{runs}
use Rattle.sim.specs.Running.{act_of}
use Rattle.sim.specs.declared.jobs.Running.{Running}
use Rattle.sim.specs.Jobs.{Told, running_at, one_running}
use Rattle.sim.proofs.Listed.{listed_start, longer_by, room_listed, one_more, unlisted, told_so, with_room}
use Rattle.sim.proofs.jobs.Jobs.start.Goals as goal

pub invariant_of-self-in-Ok : goal.invariant_of-self-in-Ok
invariant_of-self-in-Ok c =
    let added : c.push_reserved.new.events.items ≡ c.self.inside.events.items ++ Start c.args.job c.args.act.now c.args.stamp ∷ [] = c.push_reserved.ensures.items ∙ (λ i. c.list.ensures.items i ++ c.in-Ok.ensures.start i ∷ []) in
    record {
      restart = longer_by c.self.inside.before c.self.inside.events.items c.push_reserved.new.events.items (Start c.args.job c.args.act.now c.args.stamp) c.self.invariant.restart added;
      room = room_listed (length c.list.new.events.items) (length c.push_reserved.new.events.items) (length c.list.new.running.entries) _ _ c.in_ok-list.ensures.room c.push_reserved.ensures.grows (one_more c.list.new.events.items c.push_reserved.new.events.items _ c.push_reserved.ensures.items);
      runs = λ runs_on job. listed_start c.args.job job c.args.stamp c.self.inside.before (one_running c.args.act.now c.args.done) c.self.inside.events.items c.push_reserved.new.events.items c.self.inside.running.entries c.list.new.running.entries c.self.invariant.restart added (c.in_ok-list.ensures.ok.found job) (c.self.invariant.runs runs_on job);
    }

pub invariant_of-self-in-Err : goal.invariant_of-self-in-Err
invariant_of-self-in-Err c =
    let runs_on : c.self.inside.stopped ≡ false = ap (λ (t : Told). t.stopped) c.self.view_is ∙ c.requires.0 in
    let idle : runs c.args.job (drop c.self.inside.before c.self.inside.events.items) ≡ false = ap (λ (t : Told). runs c.args.job t.events) c.self.view_is ∙ c.requires.1 in
    let again : c.remove.new.self.entries ≡ c.self.inside.running.entries = unlisted c.args.job c.args.act.now c.args.done (drop c.self.inside.before c.self.inside.events.items) c.self.inside.running.entries c.list.new.running.entries _ (c.self.invariant.runs runs_on c.args.job) idle c.in_ok-list.ensures.ok c.remove.ensures.entries in
    record {
      restart = subst (λ (n : ℕ). c.self.inside.before ≤ n) (sym (ap length c.list.ensures.items)) c.self.invariant.restart;
      room = with_room (length c.self.inside.events.items) (length c.list.new.events.items) (length c.self.inside.running.entries) (length c.remove.new.self.entries) _ _ c.self.invariant.room (ap length c.list.ensures.items) (ap length again) c.list.ensures.grows;
      runs = λ still job. ap (λ (es : List (ℕ × Running)). option_map (λ (one : Running). one.act) (running_at job es)) again ∙ c.self.invariant.runs still job ∙ sym (ap (λ (es : List Event). act_of job (drop c.self.inside.before es)) c.list.ensures.items);
    }

pub returns-in-Err-clause-err : goal.returns-in-Err-clause-err
returns-in-Err-clause-err c =
    let runs_on : c.self.inside.stopped ≡ false = ap (λ (t : Told). t.stopped) c.self.view_is ∙ c.requires.0 in
    let idle : runs c.args.job (drop c.self.inside.before c.self.inside.events.items) ≡ false = ap (λ (t : Told). runs c.args.job t.events) c.self.view_is ∙ c.requires.1 in
    told_so c.self.inside.before c.self.inside.events.items c.list.new.events.items c.self.inside.running.entries c.remove.new.self.entries c.self.inside.stopped c.list.ensures.items
    (unlisted c.args.job c.args.act.now c.args.done (drop c.self.inside.before c.self.inside.events.items) c.self.inside.running.entries c.list.new.running.entries _ (c.self.invariant.runs runs_on c.args.job) idle c.in_ok-list.ensures.ok c.remove.ensures.entries) ∙ c.self.view_is
