use Rattle.std.proofs.Common.{◌≡◌, ℕ, List}
use Rattle.model.specs.World.{view_of}
use Rattle.witness.specs.Made.{overwritten}
use Rattle.witness.proofs.clean.write_all.Given as goal

abbrev pub invariant-loop-path : goal.invariant-loop-path
invariant-loop-path l = (p : List ℕ) → view_of l.files p ≡ overwritten (view_of l.initial.files) l.yielded p
