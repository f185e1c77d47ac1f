use Rattle.std.proofs.Common.{ap, ◌∙◌, ℕ}
use Rattle.audit.specs.Seen.{again_at, sums_in}
use Rattle.audit.proofs.Summed.{done_again}
use Rattle.audit.proofs.seen.Uses.take.Goals as goal

pub returns-in-Some : goal.returns-in-Some
returns-in-Some c =
    done_again (sums_in c.args.self.now) (sums_in c.again.new.self) c.args.path.now c.args.deed c.in-Some.number c.in-Some.ensures.once c.in-Some.ensures.place c.again.ensures.paths
    (c.again.ensures.uses ∙ ap (λ (n : ℕ). again_at c.args.self.now.uses.items n c.args.deed) c.index.ensures.place)
