use Rattle.std.proofs.Common.{◌≡◌, List, length}
use Rattle.records.specs.Held.{AreMadeFrom, IsLonger}
use Rattle.records.proofs.file.LogFile.look_up_each.Given as goal

abbrev pub invariant-loop-place : goal.invariant-loop-place
invariant-loop-place g l = record {
  fits : length l.places.items ≡ l.place;
  longer : IsLonger l.fn.places.items l.places.items;
  made : (rs : List g.row.L-Record.Denot) → g.L.Records.Keeps rs l.self.log → AreMadeFrom g.L.Records.told g.L.Records.in_force (length l.fn.places.items) l.place rs l.graph.manifest.paths l.places.items;
}
