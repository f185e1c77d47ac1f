use Rattle.std.proofs.Common.{sym}
use Rattle.depfile.proofs.Parts.{newline_begins, join_begins}
use Rattle.depfile.proofs.separators.separator_at.Goals as goal

pub returns-in-Some-strip_newline-clause-begins : goal.returns-in-Some-strip_newline-clause-begins
returns-in-Some-strip_newline-clause-begins c = newline_begins c.args.text.now c.in-Some-strip_newline.rest.now (sym c.in-Some-strip_newline.ensures)

pub returns-clause-begins : goal.returns-clause-begins
returns-clause-begins c = join_begins c.args.text.now c.in_ok-strip_one.field-0.now c.in_ok-joined.joined.now (sym c.in_ok-strip_one.ensures) (sym c.in_ok-joined.ensures)
