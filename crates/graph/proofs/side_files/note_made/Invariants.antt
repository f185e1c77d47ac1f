use Rattle.std.proofs.Common.{◌≡◌, length, take}
use Rattle.graph.specs.Namings.{made_too, AreNoted}
use Rattle.graph.proofs.side_files.note_made.Given as goal

abbrev pub invariant-loop-output : goal.invariant-loop-output
invariant-loop-output l = record {
  fits : length l.namings ≡ length l.fn.namings;
  noted : AreNoted (made_too l.edge) (take l.output-index l.outputs) l.fn.namings l.namings;
}
