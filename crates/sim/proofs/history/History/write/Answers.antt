use Rattle.sim.proofs.Views.{clocked_wrote}
use Rattle.sim.proofs.history.History.write.Goals as goal

pub invariant_of-self-2 : goal.invariant_of-self-2
invariant_of-self-2 c =
    clocked_wrote c.self.inside.clock c.append_write.new.clock c.self.inside.moments c.append_write.new.moments c.args.by c.args.path c.args.content c.self.invariant c.in_ok-append_write.ensures.stamp c.in_ok-append_write.ensures.ok
