use Rattle.std.proofs.Common.{sym}
use Rattle.auditor.proofs.Judged.{in_has}
use Rattle.auditor.proofs.scratch.has.Goals as goal

pub returns-in-Some : goal.returns-in-Some
returns-in-Some c = sym (in_has c.args.paths.now c.in-Some.field-0 c.args.path.now c.in-Some.ensures.place)
