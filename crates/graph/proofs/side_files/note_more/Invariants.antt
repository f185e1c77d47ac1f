use Rattle.std.proofs.Common.{◌≡◌, length, take}
use Rattle.graph.specs.declared.side_files.Naming.TheVariants.{More}
use Rattle.graph.specs.Namings.{AreNoted}
use Rattle.graph.proofs.side_files.note_more.Given as goal

abbrev pub invariant-loop-path : goal.invariant-loop-path
invariant-loop-path l = record {
  fits : length l.namings ≡ length l.fn.namings;
  noted : AreNoted (λ naming. More) (take l.path-index l.paths) l.fn.namings l.namings;
}
