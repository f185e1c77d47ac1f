use Rattle.std.proofs.Common.{◌++◌, List, ℕ, sym, ap, ◌∙◌}
use Rattle.log_text.specs.Line.{field_and_tab}
use Rattle.seen.proofs.OneOutput.{one_of}
use Rattle.seen.proofs.lines.one_output.Goals as goal

pub returns : goal.returns
returns c = one_of c.args.bytes.now c.in_ok-count.count.now c.in_ok-count.named.now c.in_ok-output.output.now c.in_ok-output.field-0-1.now c.in_ok-count.ensures.found c.in_ok-output.ensures.found c.if-ne.ensures
