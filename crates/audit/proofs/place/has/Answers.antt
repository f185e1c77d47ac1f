use Rattle.std.proofs.Common.{sym}
use Rattle.audit.proofs.Members.{in_has}
use Rattle.audit.proofs.place.has.Goals as goal

pub returns-in-Some : goal.returns-in-Some
returns-in-Some c = sym (in_has c.args.paths.now c.in-Some.field-0 c.args.path.now c.in-Some.ensures.place)
