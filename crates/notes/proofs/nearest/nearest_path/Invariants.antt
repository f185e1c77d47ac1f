use Rattle.std.proofs.Common.{◌≤◌, length, IfSome}
use Rattle.std.specs.Str.{chars}
use Rattle.notes.specs.Nearest.{IsNear, most_steps}
use Rattle.notes.proofs.nearest.nearest_path.Given as goal

abbrev pub invariant-loop-place : goal.invariant-loop-place
invariant-loop-place l = IfSome l.nearest (λ path. IsNear l.target path.now) × (l.most ≤ most_steps (length (chars l.target)))
