use Rattle.std.proofs.Common.{true, refl, ◌∙◌, ap, cond}
use Rattle.std.proofs.lemmas.Bool.{eq-eqb}
use Rattle.model.specs.declared.event.Event.TheVariants.{Start}
use Rattle.model.specs.World.{runs}
use Rattle.theory.proofs.Events.{runs_push}
use Rattle.rows_host.proofs.host_commands.start.Goals as goal

pub returns : goal.returns
returns g c =
    let events = c.args.host.now.jobs.events in
    ap (runs c.args.job) c.in_ok-start.ensures.starts.events
    ∙ (runs_push c.args.job events (Start c.args.job c.args.act.now c.args.host.now.ticked) ∙ ap (λ b. cond b true (runs c.args.job events)) (eq-eqb c.args.job c.args.job refl))
