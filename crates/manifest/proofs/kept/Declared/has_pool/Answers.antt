use Rattle.std.proofs.Common.{Bool, sym, ap, ◌∙◌, ◌||◌}
use Rattle.manifest.specs.States.{is_pool}
use Rattle.manifest.proofs.PoolKeys.{pool_found}
use Rattle.manifest.proofs.kept.Declared.has_pool.Goals as goal

pub returns-else-eq : goal.returns-else-eq
returns-else-eq c = λ state is.
    let free = sym c.eq.ensures ∙ c.if-eq.false in
    c.contains_key.ensures ∙ (pool_found c.args.self.now.pools.entries state.pools c.args.name.now is.pools ∙ ap (λ (b : Bool). b || is_pool state.pools c.args.name.now) (sym free))
