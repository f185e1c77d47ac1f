use Rattle.std.proofs.Common.{◌≡◌, drop, None, option_copied}
use Rattle.model.specs.Outcome.{last_write}
use Rattle.witness.proofs.made.left_at.Given as goal

abbrev pub invariant-loop-write : goal.invariant-loop-write
invariant-loop-write l = last_write l.path (option_copied l.held) (drop l.write-index l.writes) ≡ last_write l.path None l.writes
