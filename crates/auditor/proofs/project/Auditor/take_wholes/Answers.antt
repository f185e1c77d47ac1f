use Rattle.auditor.proofs.Counted.{counted_from}
use Rattle.auditor.proofs.project.Auditor.take_wholes.Goals as goal

pub returns : goal.returns
returns c =
    counted_from c.args.self.now.scratch c.args.wholes.now c.args.tally.now c.tell_connected.new.tally c.take_lists.new.tally
    c.tell_connected.ensures.counts c.tell_connected.ensures.left c.in_ok-take_lists.ensures
