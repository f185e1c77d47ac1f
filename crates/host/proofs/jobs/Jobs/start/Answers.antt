use Rattle.std.proofs.Common.{arith, ◌≡◌, ◌∙◌, ap, List, drop, false, ◌++◌, ◌∷◌, []}
use Rattle.model.specs.declared.event.Event.TheVariants.{Start}
use Rattle.model.specs.World.{runs}
use Rattle.host.specs.Process.{jobs_of}
use Rattle.host.specs.Told.{Told}
use Rattle.host.specs.declared.commands.Running.{Running}
use Rattle.host.proofs.Listed.{added, listed_start, since_push, longer_by, one_more}
use Rattle.host.proofs.jobs.Jobs.start.Goals as goal
use Rattle.host.proofs.jobs.Jobs.start.Goals.{After-drop-line-inside-2}

told_start : (c : After-drop-line-inside-2) → c.push_reserved.new.items.items ≡ c.self.inside.events.items ++ Start c.args.job c.args.act.now c.args.stamp ∷ []
told_start c = c.push_reserved.ensures.items ∙ (λ i. c.in_ok-reserve.ensures.items i ++ c.in_ok-event.ensures i ∷ [])

runs_too : (c : After-drop-line-inside-2) → c.push_reserved-2.new.items.items ≡ c.self.inside.commands.items ++ c.in_ok-command.command ∷ []
runs_too c = c.push_reserved-2.ensures.items ∙ ap (λ (commands : List Running). commands ++ c.in_ok-command.command ∷ []) c.in_ok-reserve-2.ensures.items

listed_too : (c : After-drop-line-inside-2) → jobs_of c.push_reserved-2.new.items.items ≡ jobs_of c.self.inside.commands.items ++ c.args.job ∷ []
listed_too c = added c.args.job c.in_ok-command.command c.self.inside.commands.items c.push_reserved-2.new.items.items (runs_too c) c.in_ok-command.ensures

pub invariant_of-self-2 : goal.invariant_of-self-2
invariant_of-self-2 c = record {
  restart = longer_by c.self.inside.before c.self.inside.events.items c.push_reserved.new.items.items _ c.self.invariant.restart (told_start c);
  room =
      let room = c.in_ok-reserve.ensures.ok in
      let count = c.len.ensures in
      let grows = c.push_reserved.ensures.grows in
      let told = one_more c.reserve.new.items.items c.push_reserved.new.items.items _ c.push_reserved.ensures.items in
      let running = one_more c.self.inside.commands.items c.push_reserved-2.new.items.items _ (runs_too c) in
      omega (arith, room, count, grows, told, running);
  listed =
      let idle : runs c.args.job (drop c.self.inside.before c.self.inside.events.items) ≡ false = ap (λ (t : Told). runs c.args.job t.events) c.self.view_is ∙ c.requires in
      listed_start c.args.job c.args.stamp c.args.act.now (jobs_of c.self.inside.commands.items) (jobs_of c.push_reserved-2.new.items.items) (drop c.self.inside.before c.self.inside.events.items) (drop c.self.inside.before c.push_reserved.new.items.items) (listed_too c)
      (since_push c.self.inside.before c.self.inside.events.items c.push_reserved.new.items.items _ c.self.invariant.restart (told_start c)) idle c.self.invariant.listed;
}
