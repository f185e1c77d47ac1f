use Rattle.std.proofs.Common.{◌≡◌, ◌∙◌, ap, drop, sym, true, false, true≢false, refl}
use Rattle.std.specs.Option.{is_some, IsSome}
use Rattle.model.specs.World.{runs}
use Rattle.sim.specs.Jobs.{Told, running_at}
use Rattle.sim.proofs.Listed.{listed_live, found_listed, ends_among}
use Rattle.sim.proofs.jobs.Jobs.next.Goals as goal

pub unreachable-requires : goal.unreachable-requires
unreachable-requires c =
    let runs_on : c.self.inside.stopped ≡ false = ap (λ (t : Told). t.stopped) c.self.view_is ∙ c.requires.0 in
    let live : runs c.requires.1.0 (drop c.self.inside.before c.self.inside.events.items) ≡ true = ap (λ (t : Told). runs c.requires.1.0 t.events) c.self.view_is ∙ c.requires.1.1 in
    true≢false (sym (found_listed c.requires.1.0 (running_at c.requires.1.0 c.self.inside.running.entries) c.self.inside.running.entries (drop c.self.inside.before c.self.inside.events.items) refl (c.self.invariant.runs runs_on c.requires.1.0) live) ∙ ap is_some (c.in-None.ensures.none refl c.requires.1.0))

pub returns-clause-next : goal.returns-clause-next
returns-clause-next c =
    let runs_on : c.self.inside.stopped ≡ false = ap (λ (t : Told). t.stopped) c.self.view_is ∙ c.requires.0 in
    record {
      running = ap (λ (t : Told). runs c.in-Some.next.0 t.events) (sym c.self.view_is) ∙ listed_live c.in-Some.next.0 c.in-Some.next.1.now c.self.inside.running.entries (drop c.self.inside.before c.self.inside.events.items) c.in-Some.ensures.found (c.self.invariant.runs runs_on c.in-Some.next.0);
      end = ends_among c.args.order c.in-Some.next.0 (λ job. IsSome (running_at job c.self.inside.running.entries)) (λ job. runs job c.args.self.now.events ≡ true)
          (λ job live. found_listed job (running_at job c.self.inside.running.entries) c.self.inside.running.entries (drop c.self.inside.before c.self.inside.events.items) refl (c.self.invariant.runs runs_on job) (ap (λ (t : Told). runs job t.events) c.self.view_is ∙ live))
          c.in-Some.ensures.end;
    }
