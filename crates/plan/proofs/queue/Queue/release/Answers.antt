use Rattle.std.proofs.Common.{◌≡◌, ◌∙◌, ◌-◌, ◌<◌, None, Some, length, get_or, ap, refl, arith}
use Rattle.std.specs.List.{slice_get}
use Rattle.plan.specs.Turns.{Turns, runs_at, with_running}
use Rattle.plan.specs.declared.pool.Pool.{Pool}
use Rattle.plan.proofs.Updating.{read_pool, read_group, members_again, shown_within, members_within, after_show, seen_running}
use Rattle.plan.proofs.queue.Queue.release.Goals as goal

pub show-requires-clause-within : goal.show-requires-clause-within
show-requires-clause-within c =
    let lt : c.args.edge < length c.self.inside.waiting.items = (omega (arith, c.requires, ap (λ (t : Turns). length t.waiting) c.self.view_is)) in
    let at : get_or c.self.inside.groups.items c.args.edge None ≡ Some c.in-Some.group = read_group c.self.inside.groups.items c.args.edge c.in-Some.group c.index.result.now c.index.ensures c.in-Some.is (omega (arith, lt, c.self.invariant.flags)) in
    let there : slice_get c.self.inside.pools.items c.in-Some.group ≡ Some c.index_mut-pool.result.now = read_pool c.self.inside.pools.items c.in-Some.group c.index_mut-pool.result.now c.index_mut-pool.ensures.value (c.self.invariant.within c.args.edge c.in-Some.group at) in
    members_within c.self.inside.groups.items c.self.inside.ranks.items c.self.inside.pools.items c.self.inside.waiting.items c.self.inside.front c.self.invariant c.in-Some.group c.index_mut-pool.result.now there

pub show-requires-clause-shown : goal.show-requires-clause-shown
show-requires-clause-shown c =
    let lt : c.args.edge < length c.self.inside.waiting.items = (omega (arith, c.requires, ap (λ (t : Turns). length t.waiting) c.self.view_is)) in
    let at : get_or c.self.inside.groups.items c.args.edge None ≡ Some c.in-Some.group = read_group c.self.inside.groups.items c.args.edge c.in-Some.group c.index.result.now c.index.ensures c.in-Some.is (omega (arith, lt, c.self.invariant.flags)) in
    let there : slice_get c.self.inside.pools.items c.in-Some.group ≡ Some c.index_mut-pool.result.now = read_pool c.self.inside.pools.items c.in-Some.group c.index_mut-pool.result.now c.index_mut-pool.ensures.value (c.self.invariant.within c.args.edge c.in-Some.group at) in
    shown_within c.self.inside.groups.items c.self.inside.ranks.items c.self.inside.pools.items c.self.inside.waiting.items c.self.inside.front c.self.invariant c.in-Some.group c.index_mut-pool.result.now there c.saturating_sub-pool.result c.index_mut-pool.result.now.waiting

pub invariant_of-self : goal.invariant_of-self
invariant_of-self c =
    let lt : c.args.edge < length c.self.inside.waiting.items = (omega (arith, c.requires, ap (λ (t : Turns). length t.waiting) c.self.view_is)) in
    let at : get_or c.self.inside.groups.items c.args.edge None ≡ Some c.in-Some.group = read_group c.self.inside.groups.items c.args.edge c.in-Some.group c.index.result.now c.index.ensures c.in-Some.is (omega (arith, lt, c.self.invariant.flags)) in
    let there : slice_get c.self.inside.pools.items c.in-Some.group ≡ Some c.index_mut-pool.result.now = read_pool c.self.inside.pools.items c.in-Some.group c.index_mut-pool.result.now c.index_mut-pool.ensures.value (c.self.invariant.within c.args.edge c.in-Some.group at) in
    after_show c.self.inside.groups.items c.self.inside.ranks.items c.self.inside.pools.items c.self.inside.waiting.items c.self.inside.front c.self.invariant c.in-Some.group c.index_mut-pool.result.now there c.saturating_sub-pool.result c.index_mut-pool.result.now.waiting c.self.inside.waiting.items c.show.new.pool c.show.new.front
    (members_again c.index_mut-pool.result.now c.saturating_sub-pool.result c.index_mut-pool.result.now.shown (c.self.invariant.kept c.in-Some.group c.index_mut-pool.result.now there).members) c.show.ensures.pool c.show.ensures.shown c.show.ensures.front refl
    ((c.self.invariant.kept c.in-Some.group c.index_mut-pool.result.now there).waits)
    (λ k out. refl)

pub returns-in-Some : goal.returns-in-Some
returns-in-Some c =
    let lt : c.args.edge < length c.self.inside.waiting.items = (omega (arith, c.requires, ap (λ (t : Turns). length t.waiting) c.self.view_is)) in
    let at : get_or c.self.inside.groups.items c.args.edge None ≡ Some c.in-Some.group = read_group c.self.inside.groups.items c.args.edge c.in-Some.group c.index.result.now c.index.ensures c.in-Some.is (omega (arith, lt, c.self.invariant.flags)) in
    let there : slice_get c.self.inside.pools.items c.in-Some.group ≡ Some c.index_mut-pool.result.now = read_pool c.self.inside.pools.items c.in-Some.group c.index_mut-pool.result.now c.index_mut-pool.ensures.value (c.self.invariant.within c.args.edge c.in-Some.group at) in
    seen_running c.self.inside.groups.items c.self.inside.pools.items c.self.inside.waiting.items c.in-Some.group c.args.edge c.index_mut-pool.result.now c.show.new.pool there at c.self.inside.waiting.items (λ n. n - 1) (ap (λ (p : Pool). p.depth) c.show.ensures.pool) ((ap (λ (p : Pool). p.running) c.show.ensures.pool) ∙ c.saturating_sub-pool.ensures) ∙ ap (λ (t : Turns). with_running t c.args.edge (runs_at t c.args.edge - 1)) c.self.view_is
