use Rattle.std.proofs.Common.{sym}
use Rattle.seen_log.proofs.Writing.{entry_behind, then_ok}
use Rattle.seen_log.proofs.log.Log.push_entry.Goals as goal

pub returns-in-Some : goal.returns-in-Some
returns-in-Some c =
    then_ok c.note_line.result c.note_line.ensures (λ one.
    entry_behind c.args.self.now.last.entries c.args.place (c.in-Some.path.now, c.in-Some.last.now) c.args.text.now.items c.note_line.new.text.items (sym c.in-Some.ensures.entry) one)
