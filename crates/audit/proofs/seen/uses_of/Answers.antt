use Rattle.std.proofs.Common.{sym, ◌∙◌}
use Rattle.audit.specs.Seen.{sums_in}
use Rattle.audit.proofs.Summed.{done_early}
use Rattle.audit.proofs.seen.uses_of.Goals as goal

pub returns-in_default : goal.returns-in_default
returns-in_default c =
    sym (c.loop-place.invariant ∙ done_early (sums_in c.loop-place.uses) c.args.wholes.now c.args.bys.now c.loop-place.place c.in_default.ensures.lookup.3)
