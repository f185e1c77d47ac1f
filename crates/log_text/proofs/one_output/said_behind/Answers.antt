use Rattle.std.proofs.Common.{sym, ◌∙◌}
use Rattle.std.proofs.lemmas.Bool.{eqb-true}
use Rattle.log_text.specs.OneOutput.{IsDoneIn}
use Rattle.log_text.proofs.Bytes.{length_nil}
use Rattle.log_text.proofs.Notes.{at_some}
use Rattle.log_text.proofs.one_output.said_behind.Goals as goal

pub returns-then-kind-eq100 : goal.returns-then-kind-eq100
returns-then-kind-eq100 c = (c.if-kind-eq100.true, at_some (IsDoneIn c.args.told.now) c.in_ok-done.field-0 c.in-Some.done c.in-Some.is c.in_ok-done.ensures)

pub returns-then-is_empty : goal.returns-then-is_empty
returns-then-is_empty c = (c.if-kind-eq98.true, length_nil c.args.told.now (eqb-true _ 0 (sym c.is_empty.ensures ∙ c.if-is_empty.true)))
