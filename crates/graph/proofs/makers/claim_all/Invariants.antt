use Rattle.std.proofs.Common.{◌≡◌, length}
use Rattle.graph.specs.Making.{AreMakersBelow, HaveDyndepsBelow}
use Rattle.graph.proofs.makers.claim_all.Given as goal

abbrev pub invariant-loop-place : goal.invariant-loop-place
invariant-loop-place l = record {
  fits : length l.makers ≡ length l.manifest.paths;
  below : AreMakersBelow l.manifest.lines l.makers l.place;
  dyndeps : HaveDyndepsBelow l.manifest l.place;
}
