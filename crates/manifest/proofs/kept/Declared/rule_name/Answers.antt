use Rattle.std.proofs.Common.{sym, ◌∙◌}
use Rattle.text.proofs.Plain.{same_bytes}
use Rattle.manifest.proofs.kept.Declared.rule_name.Goals as goal

pub returns-then-is : goal.returns-then-is
returns-then-is c = c.in_ok-same.ensures.cases ∙ same_bytes _ c.args.name.now (sym c.is.ensures ∙ c.if-is.true)
