use Rattle.std.proofs.Common.{◌≡◌, ◌+◌, ◌++◌, Some, rules}
use Rattle.model.specs.declared.event.Writer.TheVariants.{Program}
use Rattle.model.specs.World.{file_at}
use Rattle.model.specs.Calls.{content_or_empty}
use Rattle.sim.proofs.Views.{clocked_append}
use Rattle.sim.proofs.history.History.append.Goals as goal

pub invariant_of-self-2 : goal.invariant_of-self-2
invariant_of-self-2 c =
    let next : c.in_ok-stamp.stamp ≡ c.self.inside.clock + 1 = search rules in
    clocked_append c.self.inside.clock c.in_ok-stamp.stamp c.self.inside.moments c.append.new.self Program c.args.path (Some (content_or_empty (file_at c.self.inside.moments c.args.path) ++ c.args.bytes.now)) c.self.invariant next c.in_ok-append.ensures.ok
