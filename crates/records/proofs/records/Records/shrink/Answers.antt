use Rattle.std.proofs.Common.{ℕ, take, refl, ap, ◌∙◌}
use Rattle.records.proofs.Growing.{known_fewer}
use Rattle.records.proofs.records.Records.shrink.Goals as goal

pub returns-clause-known : goal.returns-clause-known
returns-clause-known c more rs ds known told =
    known_fewer c.args.graph.now c.lists_stand.ensures more rs ds c.args.self.now _ refl
    (c.truncate.ensures.items ∙ ap (λ (n : ℕ). take n c.args.self.now.places.items) c.paths.ensures)
    (c.truncate-2.ensures.items ∙ ap (λ (n : ℕ). take n c.args.self.now.deps_places.items) c.paths-2.ensures)
    known told
