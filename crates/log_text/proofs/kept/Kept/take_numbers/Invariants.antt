use Rattle.std.proofs.Common.{◌≡◌, ◌≤◌, ◌-◌, List, length}
use Rattle.text.specs.Marks.{Lacks}
use Rattle.log_text.specs.Kept.{Saying, IsTableOf}
use Rattle.log_text.specs.Steps.{IsGrown}
use Rattle.log_text.specs.Taken.{AreTakenFrom}
use Rattle.log_text.proofs.kept.Kept.take_numbers.Given as goal

abbrev pub invariant-loop-alloc : goal.invariant-loop-alloc
invariant-loop-alloc g l = record {
  same : (all : List (Saying g.row.T.Denot)) → IsTableOf all l.initial.self → IsTableOf all l.self;
  records : l.self.records ≡ l.initial.self.records;
  grown : IsGrown l.initial.self l.self;
  taken : AreTakenFrom l.self.outputs l.bytes (length l.numbers.items) l.numbers.items l.rest;
  most : length l.numbers.items ≤ l.count;
  line_feed : Lacks 10 l.rest;
}

abbrev pub decreases-loop-alloc : goal.decreases-loop-alloc
decreases-loop-alloc g l = l.count - length l.numbers.items
