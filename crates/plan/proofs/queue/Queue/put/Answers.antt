use Rattle.std.proofs.Common.{◌≡◌, ◌∙◌, ℕ, ◌<◌, None, Some, List, Bool, true, length, get_or, ap, arith}
use Rattle.std.specs.List.{slice_get}
use Rattle.std.proofs.Math.ListN.{set}
use Rattle.std.proofs.lemmas.List.{length-set}
use Rattle.plan.specs.Flags.{has}
use Rattle.plan.specs.Turns.{Turns, with_waiting}
use Rattle.plan.specs.declared.pool.Pool.{Pool}
use Rattle.plan.proofs.Fronts.{rank_is}
use Rattle.plan.proofs.Updating.{read_pool, read_rank, read_group, members_set, shown_within, members_within, waits_set, after_show, others_set, seen_put}
use Rattle.plan.proofs.queue.Queue.put.Goals as goal

pub insert-requires-in-Some : goal.insert-requires-in-Some
insert-requires-in-Some c =
    let lt : c.args.edge < length c.self.inside.waiting.items = (omega (arith, c.requires, ap (λ (t : Turns). length t.waiting) c.self.view_is)) in
    let at : get_or c.self.inside.groups.items c.args.edge None ≡ Some c.in-Some.group = read_group c.self.inside.groups.items c.args.edge c.in-Some.group c.index.result.now c.index.ensures c.in-Some.is (omega (arith, lt, c.self.invariant.flags)) in
    let there : slice_get c.self.inside.pools.items c.in-Some.group ≡ Some c.index_mut-pool.result.now = read_pool c.self.inside.pools.items c.in-Some.group c.index_mut-pool.result.now c.index_mut-pool.ensures.value (c.self.invariant.within c.args.edge c.in-Some.group at) in
    let rank : c.index-in-Some.result.now ≡ get_or c.self.inside.ranks.items c.args.edge 0 = read_rank c.self.inside.ranks.items c.args.edge c.index-in-Some.result.now c.index-in-Some.ensures (omega (arith, lt, c.self.invariant.flags, c.self.invariant.seats.fits)) in
    let mine = rank_is c.self.inside.groups.items c.self.inside.ranks.items c.self.inside.pools.items c.self.inside.waiting.items c.self.inside.front c.self.invariant c.in-Some.group c.args.edge c.index_mut-pool.result.now there at in
    let fits = (c.self.invariant.kept c.in-Some.group c.index_mut-pool.result.now there).members.fits in
    omega (arith, rank, mine.0, fits)

pub show-requires-clause-members : goal.show-requires-clause-members
show-requires-clause-members c =
    let lt : c.args.edge < length c.self.inside.waiting.items = (omega (arith, c.requires, ap (λ (t : Turns). length t.waiting) c.self.view_is)) in
    let at : get_or c.self.inside.groups.items c.args.edge None ≡ Some c.in-Some.group = read_group c.self.inside.groups.items c.args.edge c.in-Some.group c.index.result.now c.index.ensures c.in-Some.is (omega (arith, lt, c.self.invariant.flags)) in
    let there : slice_get c.self.inside.pools.items c.in-Some.group ≡ Some c.index_mut-pool.result.now = read_pool c.self.inside.pools.items c.in-Some.group c.index_mut-pool.result.now c.index_mut-pool.ensures.value (c.self.invariant.within c.args.edge c.in-Some.group at) in
    let rank : c.index-in-Some.result.now ≡ get_or c.self.inside.ranks.items c.args.edge 0 = read_rank c.self.inside.ranks.items c.args.edge c.index-in-Some.result.now c.index-in-Some.ensures (omega (arith, lt, c.self.invariant.flags, c.self.invariant.seats.fits)) in
    let mine = rank_is c.self.inside.groups.items c.self.inside.ranks.items c.self.inside.pools.items c.self.inside.waiting.items c.self.inside.front c.self.invariant c.in-Some.group c.args.edge c.index_mut-pool.result.now there at in
    members_set c.index_mut-pool.result.now c.index_mut-pool.result.now.running c.index-in-Some.result.now true c.insert-in-Some.new.self (c.self.invariant.kept c.in-Some.group c.index_mut-pool.result.now there).members (omega (arith, rank, mine.0)) c.insert-in-Some.ensures

pub show-requires-clause-within : goal.show-requires-clause-within
show-requires-clause-within c =
    let lt : c.args.edge < length c.self.inside.waiting.items = (omega (arith, c.requires, ap (λ (t : Turns). length t.waiting) c.self.view_is)) in
    let at : get_or c.self.inside.groups.items c.args.edge None ≡ Some c.in-Some.group = read_group c.self.inside.groups.items c.args.edge c.in-Some.group c.index.result.now c.index.ensures c.in-Some.is (omega (arith, lt, c.self.invariant.flags)) in
    let there : slice_get c.self.inside.pools.items c.in-Some.group ≡ Some c.index_mut-pool.result.now = read_pool c.self.inside.pools.items c.in-Some.group c.index_mut-pool.result.now c.index_mut-pool.ensures.value (c.self.invariant.within c.args.edge c.in-Some.group at) in
    members_within c.self.inside.groups.items c.self.inside.ranks.items c.self.inside.pools.items c.self.inside.waiting.items c.self.inside.front c.self.invariant c.in-Some.group c.index_mut-pool.result.now there

pub show-requires-clause-shown : goal.show-requires-clause-shown
show-requires-clause-shown c =
    let lt : c.args.edge < length c.self.inside.waiting.items = (omega (arith, c.requires, ap (λ (t : Turns). length t.waiting) c.self.view_is)) in
    let at : get_or c.self.inside.groups.items c.args.edge None ≡ Some c.in-Some.group = read_group c.self.inside.groups.items c.args.edge c.in-Some.group c.index.result.now c.index.ensures c.in-Some.is (omega (arith, lt, c.self.invariant.flags)) in
    let there : slice_get c.self.inside.pools.items c.in-Some.group ≡ Some c.index_mut-pool.result.now = read_pool c.self.inside.pools.items c.in-Some.group c.index_mut-pool.result.now c.index_mut-pool.ensures.value (c.self.invariant.within c.args.edge c.in-Some.group at) in
    shown_within c.self.inside.groups.items c.self.inside.ranks.items c.self.inside.pools.items c.self.inside.waiting.items c.self.inside.front c.self.invariant c.in-Some.group c.index_mut-pool.result.now there c.index_mut-pool.result.now.running c.insert-in-Some.new.self

pub invariant_of-self-in-Some : goal.invariant_of-self-in-Some
invariant_of-self-in-Some c =
    let lt : c.args.edge < length c.self.inside.waiting.items = (omega (arith, c.requires, ap (λ (t : Turns). length t.waiting) c.self.view_is)) in
    let at : get_or c.self.inside.groups.items c.args.edge None ≡ Some c.in-Some.group = read_group c.self.inside.groups.items c.args.edge c.in-Some.group c.index.result.now c.index.ensures c.in-Some.is (omega (arith, lt, c.self.invariant.flags)) in
    let there : slice_get c.self.inside.pools.items c.in-Some.group ≡ Some c.index_mut-pool.result.now = read_pool c.self.inside.pools.items c.in-Some.group c.index_mut-pool.result.now c.index_mut-pool.ensures.value (c.self.invariant.within c.args.edge c.in-Some.group at) in
    let rank : c.index-in-Some.result.now ≡ get_or c.self.inside.ranks.items c.args.edge 0 = read_rank c.self.inside.ranks.items c.args.edge c.index-in-Some.result.now c.index-in-Some.ensures (omega (arith, lt, c.self.invariant.flags, c.self.invariant.seats.fits)) in
    let mine = rank_is c.self.inside.groups.items c.self.inside.ranks.items c.self.inside.pools.items c.self.inside.waiting.items c.self.inside.front c.self.invariant c.in-Some.group c.args.edge c.index_mut-pool.result.now there at in
    after_show c.self.inside.groups.items c.self.inside.ranks.items c.self.inside.pools.items c.self.inside.waiting.items c.self.inside.front c.self.invariant c.in-Some.group c.index_mut-pool.result.now there c.index_mut-pool.result.now.running c.insert-in-Some.new.self (set c.self.inside.waiting.items c.args.edge true) c.show.new.pool c.show.new.front
    (members_set c.index_mut-pool.result.now c.index_mut-pool.result.now.running c.index-in-Some.result.now true c.insert-in-Some.new.self (c.self.invariant.kept c.in-Some.group c.index_mut-pool.result.now there).members (omega (arith, rank, mine.0)) c.insert-in-Some.ensures) c.show.ensures.pool c.show.ensures.shown c.show.ensures.front (length-set c.self.inside.waiting.items c.args.edge true)
    (λ k also. ap (λ (l : List Bool). has l (get_or c.self.inside.ranks.items k 0)) (c.insert-in-Some.ensures ∙ ap (λ (r : ℕ). set c.index_mut-pool.result.now.waiting r true) rank) ∙ waits_set c.self.inside.groups.items c.self.inside.ranks.items c.self.inside.pools.items c.self.inside.waiting.items c.self.inside.front c.self.invariant c.in-Some.group c.index_mut-pool.result.now there c.args.edge true at lt k also)
    (others_set c.self.inside.groups.items c.self.inside.ranks.items c.self.inside.pools.items c.self.inside.waiting.items c.self.inside.front c.self.invariant c.in-Some.group c.index_mut-pool.result.now there c.args.edge true at)

pub returns-in-Some : goal.returns-in-Some
returns-in-Some c =
    let lt : c.args.edge < length c.self.inside.waiting.items = (omega (arith, c.requires, ap (λ (t : Turns). length t.waiting) c.self.view_is)) in
    let at : get_or c.self.inside.groups.items c.args.edge None ≡ Some c.in-Some.group = read_group c.self.inside.groups.items c.args.edge c.in-Some.group c.index.result.now c.index.ensures c.in-Some.is (omega (arith, lt, c.self.invariant.flags)) in
    let there : slice_get c.self.inside.pools.items c.in-Some.group ≡ Some c.index_mut-pool.result.now = read_pool c.self.inside.pools.items c.in-Some.group c.index_mut-pool.result.now c.index_mut-pool.ensures.value (c.self.invariant.within c.args.edge c.in-Some.group at) in
    seen_put c.self.inside.groups.items c.self.inside.pools.items c.self.inside.waiting.items c.in-Some.group c.args.edge c.index_mut-pool.result.now c.show.new.pool there at true (ap (λ (p : Pool). p.depth) c.show.ensures.pool) (ap (λ (p : Pool). p.running) c.show.ensures.pool) ∙ ap (λ (t : Turns). with_waiting t c.args.edge true) c.self.view_is
