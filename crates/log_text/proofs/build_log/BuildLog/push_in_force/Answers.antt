use Rattle.std.proofs.Common.{map, ap, sym, subst}
use Rattle.log_text.specs.Kept.{AreDistinct}
use Rattle.log_text.proofs.build_log.BuildLog.push_in_force.Goals as goal

pub done_line-requires-clause-once : goal.done_line-requires-clause-once
done_line-requires-clause-once c =
    let all = c.self.invariant.0 in
    let is = c.self.invariant.1 in
    subst AreDistinct (ap (map (λ o. o.now)) (sym c.as_slice.ensures.value)) (c.in_ok-outputs.ensures.once all is)
