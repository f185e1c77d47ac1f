use Rattle.std.proofs.Common.{◌≡◌, drop}
use Rattle.std.specs.List.{list_any}
use Rattle.audit.specs.Seen.{is_connected}
use Rattle.audit.proofs.seen.connects.Given as goal

abbrev pub invariant-loop-whole : goal.invariant-loop-whole
invariant-loop-whole l = list_any (λ whole. is_connected whole.deed) l.wholes ≡ list_any (λ whole. is_connected whole.deed) (drop l.whole-index l.wholes)
