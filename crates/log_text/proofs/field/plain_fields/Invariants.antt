use Rattle.std.proofs.Common.{◌≡◌, take}
use Rattle.log_text.proofs.field.plain_fields.Given as goal

abbrev pub invariant-loop-path : goal.invariant-loop-path
invariant-loop-path l = l.fields.items ≡ take l.path-index l.paths
