use Rattle.std.proofs.Common.{map, ap, ◌∙◌, List, ℕ}
use Rattle.std.specs.Map.Iter.{deref_pair}
use Rattle.std.proofs.lemmas.Map.Iter.{rest_more, rest_all}
use Rattle.manifest.specs.Held.{pool_of}
use Rattle.manifest.proofs.EdgeLists.{takes_one, took_all}
use Rattle.manifest.proofs.graph.all_pools.Goals as goal

pub loop-name-init : goal.loop-name-init
loop-name-init c = rw c.new-pools.ensures (ap (map pool_of) (c.into_iter-name-iterator.ensures.into_iter_gives ∙ c.iter-name-items.ensures.rest))

pub loop-name-preserved : goal.loop-name-preserved
loop-name-preserved c =
    let step = rest_more deref_pair c.loop-name.name-iterator c.next.new.self c.next.result (c.in-Some.name, c.in-Some.depth) c.in-Some.is c.next.ensures.steps in
    takes_one pool_of c.loop-name.pools _ _ c.loop-name.name-iterator c.next.new.self (c.in-Some.name.now, c.in-Some.depth.now) _ c.loop-name.invariant step c.in_ok-push.ensures.ok
    (ap (λ (n : List ℕ). record { name = n; depth = c.in-Some.depth.now }) (c.in_ok-from_str.ensures ∙ c.as_str.ensures.value))

pub returns : goal.returns
returns c =
    let all = rest_all deref_pair c.loop-name.name-iterator c.next.new.self c.next.result c.in-None.is c.next.ensures.steps in
    took_all pool_of c.loop-name.pools _ c.loop-name.name-iterator c.loop-name.invariant all
