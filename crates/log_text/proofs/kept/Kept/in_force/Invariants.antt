use Rattle.std.proofs.Common.{◌≡◌, List}
use Rattle.std.specs.List.{AllByRecursion}
use Rattle.log_text.specs.Kept.{Saying, IsTableOf}
use Rattle.log_text.specs.Found.{tellings_in, IsNamed}
use Rattle.log_text.proofs.Lookups.{first_in_force}
use Rattle.log_text.proofs.kept.Kept.in_force.Given as goal

abbrev pub invariant-loop-place : goal.invariant-loop-place
invariant-loop-place g l = record {
  found : (all : List (Saying g.row.T.Denot)) → IsTableOf all l.self → tellings_in l.found.items ≡ first_in_force all l.place;
  named : (all : List (Saying g.row.T.Denot)) → IsTableOf all l.self → AllByRecursion IsNamed l.found.items;
}
