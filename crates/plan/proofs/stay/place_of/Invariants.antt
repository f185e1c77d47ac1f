use Rattle.std.proofs.Common.{◌≡◌, false, take}
use Rattle.model.specs.Graph.{has_number}
use Rattle.plan.proofs.stay.place_of.Given as goal

abbrev pub invariant-loop-place : goal.invariant-loop-place
invariant-loop-place l = has_number (take l.place l.files) l.file ≡ false
