use Rattle.std.specs.HashMap.{get_by_text}
use Rattle.std.proofs.lemmas.Map.Text.{hash_map_updates_text}
use Rattle.sim.proofs.Writing.{put_written}
use Rattle.sim.proofs.notes.put.Goals as goal

pub returns-clause-ok : goal.returns-clause-ok
returns-clause-ok c =
    put_written _ c.in_ok-clone.field-0 c.args.path.now c.in_ok-before.before c.args.last (get_by_text c.args.lasts.now) (get_by_text c.insert.new.self) c.into_string-path.ensures c.in_ok-clone.ensures.cases c.in_ok-before.ensures.old
    (hash_map_updates_text _ c.args.lasts.now c.insert.new.self _ c.in_ok-before.ensures.updates)
