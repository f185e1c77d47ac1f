use Rattle.std.proofs.Common.{rules}
use Rattle.std.specs.HashMap.{get_by_text}
use Rattle.std.proofs.lemmas.Map.Text.{hash_map_updates_text}
use Rattle.sim.proofs.Writing.{extended, not_extended}
use Rattle.sim.proofs.notes.extend.Goals as goal

pub returns-in-Some-clause-ok : goal.returns-in-Some-clause-ok
returns-in-Some-clause-ok c =
    extended c.args.path.now c.args.bytes.now c.args.stamp c.grow.result c.in-Some.last.now c.grow.new.last (get_by_text c.args.lasts.now) (get_by_text (c.get_mut.follows.lender c.grow.new.last)) c.grow.ensures.ok c.in-Some.ensures.value
    (hash_map_updates_text c.args.path.now c.args.lasts.now (c.get_mut.follows.lender c.grow.new.last) _ ((c.get_mut.follows.holds c.grow.new.last).3 (search rules)))

pub returns-in-Some-clause-err : goal.returns-in-Some-clause-err
returns-in-Some-clause-err c =
    not_extended c.args.path.now c.grow.result c.in-Some.last.now c.grow.new.last (get_by_text c.args.lasts.now) (get_by_text (c.get_mut.follows.lender c.grow.new.last)) c.grow.ensures.err c.in-Some.ensures.value
    (hash_map_updates_text c.args.path.now c.args.lasts.now (c.get_mut.follows.lender c.grow.new.last) _ ((c.get_mut.follows.holds c.grow.new.last).3 (search rules)))
