use Rattle.model.specs.declared.event.Writer.TheVariants.{Command}
use Rattle.sim.proofs.Views.{clocked_wrote}
use Rattle.sim.proofs.history.leave.Goals as goal

pub returns-clause-stamp : goal.returns-clause-stamp
returns-clause-stamp c =
    clocked_wrote c.args.clock.now c.append_write.new.clock c.args.moments.now c.append_write.new.moments (Command c.args.job) c.args.write.path c.args.write.content c.requires c.in_ok-append_write.ensures.stamp c.in_ok-append_write.ensures.ok
