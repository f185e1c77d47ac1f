use Rattle.std.proofs.Common.{rules}
use Rattle.std.specs.HashMap.{get_by_text}
use Rattle.std.proofs.lemmas.Map.Text.{hash_map_updates_text}
use Rattle.sim.proofs.Writing.{taken_back, reverted_none, reverted_held, reverted_beginning}
use Rattle.sim.proofs.notes.take_back.Goals as goal

pub returns-in-Held-None : goal.returns-in-Held-None
returns-in-Held-None c p =
    taken_back c.args.path.now p c.args.before _ (get_by_text c.args.lasts.now) (get_by_text c.remove.new.self) (reverted_none c.args.before c.in-Held-None.field-0 _ c.in-Held-None.is c.in-Held-None.field-0-is)
    (hash_map_updates_text c.args.path.now c.args.lasts.now c.remove.new.self _ c.remove.ensures.updates p)

pub returns-in-Some : goal.returns-in-Some
returns-in-Some c p =
    taken_back c.args.path.now p c.args.before _ (get_by_text c.args.lasts.now) (get_by_text (c.get_mut.follows.lender c.in-Held-Some.before)) (reverted_held c.args.before c.in-Held-Some.field-0 _ c.in-Held-Some.before c.in-Some.last.now c.in-Held-Some.is c.in-Held-Some.field-0-is c.in-Some.ensures.value)
    (hash_map_updates_text c.args.path.now c.args.lasts.now (c.get_mut.follows.lender c.in-Held-Some.before) _ ((c.get_mut.follows.holds c.in-Held-Some.before).3 (search rules)) p)

pub returns-in-Some-get_mut : goal.returns-in-Some-get_mut
returns-in-Some-get_mut c p =
    taken_back c.args.path.now p c.args.before _ (get_by_text c.args.lasts.now) (get_by_text (c.get_mut-in-Beginning.follows.lender c.shorten.new.last))
    (reverted_beginning c.args.before c.in-Beginning.length c.in-Beginning.stamp _ c.in-Some-get_mut.last.now c.shorten.new.last c.in-Beginning.is c.shorten.ensures.content c.shorten.ensures.stamp c.in-Some-get_mut.ensures.value)
    (hash_map_updates_text c.args.path.now c.args.lasts.now (c.get_mut-in-Beginning.follows.lender c.shorten.new.last) _ ((c.get_mut-in-Beginning.follows.holds c.shorten.new.last).3 (search rules)) p)
