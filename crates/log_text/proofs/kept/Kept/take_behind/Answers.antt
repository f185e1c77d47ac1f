use Rattle.std.proofs.Common.{[], sym, append-nil}
use Rattle.log_text.proofs.kept.Kept.take_behind.Goals as goal

pub returns-in-Some-clause-grown : goal.returns-in-Some-clause-grown
returns-in-Some-clause-grown g c = record { more = []; outputs = sym (append-nil c.args.self.now.outputs) }
