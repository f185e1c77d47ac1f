use Rattle.std.proofs.Common.{◌≡◌, ◌+◌, ◌∙◌, ℕ, ap, map, max}
use Rattle.std.proofs.lemmas.Map.Text.{hash_map_updates_str}
use Rattle.seen_log.specs.declared.log.Log.{Log}
use Rattle.seen_log.specs.declared.note.Last.{Last}
use Rattle.seen_log.specs.Record.{noting}
use Rattle.seen_log.specs.Keeping.{entry_note}
use Rattle.seen_log.proofs.Keeping.{keeps_more, entries_more}
use Rattle.seen_log.proofs.log.Log.note_in.Goals as goal

pub returns-clause-ok : goal.returns-clause-ok
returns-clause-ok c = λ records keeps.
    let old = c.args.self.now in
    let here : Last = record { place = old.records; noted = c.args.noted } in
    let counted = rw c.in_ok-records.ensures.ok_part at c.checked_add.ensures in
    let count : c.in_ok-records.records ≡ old.records + 1 = counted.1 in
    let new : Log = record { last = c.insert.new.self; arena = old.arena; records = c.in_ok-records.records; greatest = c.max-self.result } in
    keeps_more records (noting c.args.path.now c.args.noted) old new
    (record {
      last = λ path. hash_map_updates_str c.args.path.now old.last c.insert.new.self _ c.in_ok-insert.ensures.updates path;
      entries = ap (map entry_note) c.in_ok-insert.ensures.entries ∙ entries_more old.last.entries c.args.path here;
      count = count;
      greatest = c.max-self.ensures ∙ ap (max old.greatest) c.to_pass.ensures;
    })
    keeps
