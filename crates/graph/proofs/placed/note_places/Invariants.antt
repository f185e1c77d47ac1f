use Rattle.std.proofs.Common.{◌≡◌, length, take}
use Rattle.graph.specs.Places.{ArePlaces}
use Rattle.graph.proofs.placed.note_places.Given as goal

abbrev pub invariant-loop-place : goal.invariant-loop-place
invariant-loop-place l = record {
  fits : length l.places ≡ length l.fn.places;
  placed : ArePlaces (take l.place l.order) l.places;
}
