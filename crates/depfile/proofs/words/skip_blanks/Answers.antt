use Rattle.std.proofs.Common.{rules}
use Rattle.depfile.proofs.Lines.{one_more_blank}
use Rattle.depfile.proofs.words.skip_blanks.Goals as goal

pub blanks-preserved : goal.blanks-preserved
blanks-preserved c = record {
  utf8 = search rules;
  far = one_more_blank c.args.text.now c.blanks.at.now c.in-Some-Blank-default.rest.now c.blanks.invariant.far (rw c.in-Some-Blank-default.field-0-0-is at c.in-Some-Blank-default.ensures.begins);
}
