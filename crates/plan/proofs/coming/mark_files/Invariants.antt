use Rattle.std.proofs.Common.{◌≡◌, length, take}
use Rattle.plan.specs.Coming.{AreMarked}
use Rattle.plan.proofs.coming.mark_files.Given as goal

abbrev pub invariant-loop-file : goal.invariant-loop-file
invariant-loop-file l = record {
  fits : length l.flags ≡ length l.initial.flags;
  marked : AreMarked (length l.initial.flags) (take l.file-index l.loads) l.flags;
}
