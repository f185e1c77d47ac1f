use Rattle.std.proofs.Common.{ap}
use Rattle.seen.specs.declared.known.Known.{Known}
use Rattle.seen.proofs.Growing.{grows_same}
use Rattle.seen.proofs.seen.Seen.ask_for.Goals as goal

pub returns-in-Some-Begun-clause-grows : goal.returns-in-Some-Begun-clause-grows
returns-in-Some-Begun-clause-grows g c = grows_same c.note_made.result c.args.self.now.retold.noted.lines.items c.note_made.new.self.retold.noted.lines.items (ap (λ (k : Known). k.lines.items) c.note_made.ensures.noted)
