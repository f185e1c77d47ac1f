use Rattle.reasons.proofs.Taking.{taken_as}
use Rattle.reasons.proofs.outputs.add_output.Goals as goal

pub returns : goal.returns
returns c paths rs ds of told within =
    taken_as c.args.act.now _ _ _ _ _ _ c.seen_stamp.ensures (c.made.ensures.made rs paths of within) (c.deps_start.ensures ds paths told within) c.args.summary.now c.add.new.self c.add.ensures
