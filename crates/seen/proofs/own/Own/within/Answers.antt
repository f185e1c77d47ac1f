use Rattle.seen.proofs.own.Own.within.Goals as goal

pub returns : goal.returns
returns c = record {
  log = c.in_ok-log.ensures;
  deps_log = c.in_ok-deps_log.ensures;
  tick = c.in_ok-tick.ensures;
  seen = c.in_ok-seen.ensures;
}
