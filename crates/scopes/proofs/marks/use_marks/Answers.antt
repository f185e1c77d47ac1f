use Rattle.scopes.specs.Marks.{key}
use Rattle.scopes.proofs.marks.use_marks.Goals as goal

pub returns : goal.returns
returns c = record {
  block = λ name some. c.and-2.ensures.others (key name) (c.marks-of_block.ensures name some);
  rule = λ name some. c.and-2.ensures.these (key name) (c.and.ensures.others (key name) (c.marks_of-of_rule.ensures name some));
  scope = λ past is name some. c.and-2.ensures.these (key name) (c.and.ensures.these (key name) (c.requires past is name some));
}
