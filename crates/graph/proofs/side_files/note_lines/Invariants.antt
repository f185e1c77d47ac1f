use Rattle.std.proofs.Common.{◌≡◌, length}
use Rattle.graph.specs.Namings.{AreNamingsBelow}
use Rattle.graph.proofs.side_files.note_lines.Given as goal

abbrev pub invariant-loop-place : goal.invariant-loop-place
invariant-loop-place l = record {
  fits : length l.namings ≡ length l.manifest.paths;
  below : AreNamingsBelow l.manifest.lines l.namings l.place;
}
