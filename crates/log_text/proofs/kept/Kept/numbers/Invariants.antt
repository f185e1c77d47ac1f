use Rattle.std.proofs.Common.{◌≡◌, take, List}
use Rattle.log_text.specs.Kept.{Saying, IsTableOf, AreNumbersOf}
use Rattle.log_text.specs.Steps.{IsGrown}
use Rattle.log_text.proofs.kept.Kept.numbers.Given as goal

abbrev pub invariant-loop-text : goal.invariant-loop-text
invariant-loop-text g l = record {
  same : (all : List (Saying g.row.T.Denot)) → IsTableOf all l.initial.self → IsTableOf all l.self;
  records : l.self.records ≡ l.initial.self.records;
  grown : IsGrown l.initial.self l.self;
  numbers : AreNumbersOf l.self.outputs l.numbers.items (take l.text-index l.texts);
}
