use Rattle.std.proofs.Common.{◌≡◌, ◌≤◌, length, List}
use Rattle.log_text.specs.Kept.{Saying, IsTableOf}
use Rattle.log_text.proofs.Lookups.{first_in_force}
use Rattle.log_text.proofs.kept.Kept.records_in_force.Given as goal

abbrev pub invariant-loop-place : goal.invariant-loop-place
invariant-loop-place g l = record {
  below : l.count ≤ l.place;
  counted : (all : List (Saying g.row.T.Denot)) → IsTableOf all l.self → l.count ≡ length (first_in_force all l.place);
}
